-- Inventories that calls give: their parts are in range.
--
--   n_valid, few_files         the number of files is 1 to 254
--   files_valid, nonempty_valid, volumes_valid, quarantined_valid     the sets are in range
--   none_both                  no volume is both present and quarantined
-- Assumes nothing.
use mathlib.Core.Path.{◌≡◌}
use mathlib.Core.Bool.{true}
use Prim.Native.Nat.{◌≤◌, ◌-◌}
use native.Mathlib.Omega.{arith}
use native.Mathlib.Decide.{dec_lt}
use lib.ListN.{length}
use Rattle.computed_tests.specs.Numbers.{one_to}
use Rattle.computed_tests.proofs.Tests.{and_both, one_to_inside}
use Rattle.number_sets.specs.Sets.{member, within, apart}
use Rattle.number_sets.proofs.Ranges.{apart_bits}
use Rattle.number_sets.proofs.Words.{member_above}
use Rattle.inventory.specs.Steps.{is_inventory}
use Rattle.inventory.specs.declared.Inventory.{Inventory}
use Rattle.inventory.proofs.ModelSets.{Apart}

-- ---- the parts

record Parts (s : Inventory) : Type 0 where
  n_part : one_to 254 s.n ≡ true
  files_part : within s.n s.files ≡ true
  nonempty_part : within s.n s.nonempty ≡ true
  volumes_part : within (255 - s.n) s.volumes ≡ true
  quarantined_part : within (255 - s.n) s.quarantined ≡ true
  apart_part : apart s.volumes s.quarantined ≡ true

module _ (s : Inventory) (valid : is_inventory s ≡ true) where
  parts : Parts s
  unfolding is_inventory
  parts = let a = and_both (one_to 254 s.n) _ valid in
      let b = and_both (within s.n s.files) _ a.1 in
      let c = and_both (within s.n s.nonempty) _ b.1 in
      let d = and_both (within (255 - s.n) s.volumes) _ c.1 in
      let e = and_both (within (255 - s.n) s.quarantined) _ d.1 in
      record {
        n_part = a.0;
        files_part = b.0;
        nonempty_part = c.0;
        volumes_part = d.0;
        quarantined_part = e.0;
        apart_part = e.1;
      }

  pub n_valid : one_to 254 s.n ≡ true
  n_valid = parts.n_part

  pub few_files : s.n ≤ 254
  few_files = (one_to_inside 254 s.n n_valid).1

  pub files_valid : within s.n s.files ≡ true
  files_valid = parts.files_part

  pub nonempty_valid : within s.n s.nonempty ≡ true
  nonempty_valid = parts.nonempty_part

  pub volumes_valid : within (255 - s.n) s.volumes ≡ true
  volumes_valid = parts.volumes_part

  pub quarantined_valid : within (255 - s.n) s.quarantined ≡ true
  quarantined_valid = parts.quarantined_part

  pub none_both : length s.quarantined ≡ 4 → Apart (member s.volumes) (member s.quarantined)
  none_both four k e =
      elim (dec_lt k 256) [
        | yes l ↦ apart_bits s.volumes s.quarantined parts.apart_part k l e
        | no q ↦ member_above s.quarantined k four (omega arith)
      ]
