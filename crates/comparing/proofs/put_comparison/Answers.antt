-- `comparing::put_comparison` meets its contract.
-- Assumes nothing.
use mathlib.Core.Path.{sym, ◌∙◌}
use Rattle.text.proofs.WriterLaws.{puts_then}
use Rattle.comparing.proofs.CallLaws.{comparison_refused, comparison_refused_2, comparison_accepted, data_part}
use Rattle.par1_read.proofs.ReadingLaws.{read_list}
use Rattle.comparing.proofs.put_comparison.Goals as goal

pub returns-in_default : goal.returns-in_default
returns-in_default c = let first = rw c.requires.0 at c.put_refusal.ensures in let second = rw c.requires.1 at c.put_refusal-in_default.ensures in
    rw (comparison_refused c.args.one.now c.args.two.now (sym c.requires.0 ∙ c.in_default.is)) (puts_then first second)

pub returns-in_default-second : goal.returns-in_default-second
returns-in_default-second c = let first = sym c.requires.0 ∙ c.in-Ok.is in let second = sym c.requires.1 ∙ c.in_default-second.is in
    rw (comparison_refused_2 c.args.one.now c.args.two.now first second) (rw c.requires.1 at c.put_refusal-in_default-second.ensures)

pub returns : goal.returns
returns c = let one = c.args.one.now in let two = c.args.two.now in
    let first = sym c.requires.0 ∙ c.in-Ok.is in let second = sym c.requires.1 ∙ c.in-Ok-second.is in
    let lists = rw (c.part-list_one.ensures ∙ read_list one first, c.part-list_two.ensures ∙ read_list two second) at c.put_entries.ensures in
    let runs = rw (c.part-data_one.ensures ∙ data_part one first, c.part-data_two.ensures ∙ data_part two second) at c.put_runs.ensures in
    rw (comparison_accepted one two first second) (puts_then c.put_header.ensures (puts_then lists runs))
