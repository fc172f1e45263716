-- `par1_rules::hashes::of_set` meets its contract. The loop's invariant: the hash so far, pushed over the entries that remain, ends in
-- the set hash.
-- Assumes nothing.
use mathlib.Core.Path.{◌≡◌}
use Rattle.md5_digest.specs.Running.{finished}
use Rattle.entries.specs.Walk.{entries_of}
use Rattle.par1_rules.specs.Hashes.{set_hash}
use Rattle.par1_rules.proofs.HashLaws.{pushed_over}
use Rattle.par1_rules.proofs.hashes.of_set.Given as goal

abbrev pub invariant-loop-entry : goal.invariant-loop-entry
invariant-loop-entry l = finished (pushed_over l.hash l.entry-iterator) ≡ set_hash (entries_of l.list).pieces
