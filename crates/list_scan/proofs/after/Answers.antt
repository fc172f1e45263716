-- `list_scan::after` meets its contract. The loop's invariant: the scan so far ends, over the bytes that remain, as the scan before them all,
-- and its counts have room for them.
-- Assumes nothing.
use Rattle.std.proofs.Common.{◌≡◌, ◌+◌, ◌-◌, ◌≤◌, length, take, drop, sym, ap, ap₂, ◌∙◌, arith, length-drop, rules}
use Rattle.lent_bytes.proofs.PartLaws.{part_to_end}
use Rattle.entries.specs.Walk.{add_entry}
use Rattle.entries.proofs.WalkLaws.{add_fits}
use Rattle.list_scan.proofs.RunLaws.{kept_start, kept_done, run_fits, run_length, run_ends, run_goes_on}
use Rattle.list_scan.proofs.after.Goals as goal

pub loop-i-init : goal.loop-i-init
loop-i-init c = kept_start _ _ (let h : length c.args.scan.head ≡ 56 = search rules in h) c.requires

pub slice_bounds-rest-start : goal.slice_bounds-rest-start
slice_bounds-rest-start c = c.loop-i.invariant.within

pub next_run-run-requires : goal.next_run-run-requires
next_run-run-requires c = let l = c.loop-i in let s = c.args.bytes.now in (omega (arith, ap length (part_to_end s l.i), length-drop l.i s), l.invariant.head_size)

pub slice_bounds-taken-end : goal.slice_bounds-taken-end
slice_bounds-taken-end c = sym (let h : let s = c.args.bytes.now in let n = c.next_run-run.result.length in length (take n (take (length s - c.loop-i.i) (drop c.loop-i.i s))) ≡ n = run_length _ _ _ c.loop-i.invariant c.next_run-run.ensures in h)

pub overflow_add-i : goal.overflow_add-i
overflow_add-i c = omega (arith, (let h : c.loop-i.i + c.next_run-run.result.length ≤ length c.args.bytes.now = run_fits _ _ _ c.loop-i.invariant c.next_run-run.ensures in h))

pub slice_bounds-put-end : goal.slice_bounds-put-end
slice_bounds-put-end c = sym c.loop-i.invariant.head_size

pub overflow_add-scan : goal.overflow_add-scan
overflow_add-scan c = omega (arith, (let h : c.loop-i.i + c.next_run-run.result.length ≤ length c.args.bytes.now = run_fits _ _ _ c.loop-i.invariant c.next_run-run.ensures in h), c.loop-i.invariant.room.at_fits)

pub loop-i-smaller-then-is_whole : goal.loop-i-smaller-then-is_whole
loop-i-smaller-then-is_whole c = omega (arith, (let h : c.loop-i.i + c.next_run-run.result.length ≤ length c.args.bytes.now = run_fits _ _ _ c.loop-i.invariant c.next_run-run.ensures in h), c.next_run-run.ensures.some)

pub loop-i-preserved-then-is_whole : goal.loop-i-preserved-then-is_whole
loop-i-preserved-then-is_whole c = let l = c.loop-i in
    let fits : l.i + c.next_run-run.result.length ≤ length c.args.bytes.now = run_fits _ _ _ l.invariant c.next_run-run.ensures in
    let some = c.next_run-run.ensures.some in
    let added = add_fits l.scan.totals _ _ (omega (arith, fits, some, l.invariant.room.entries_fit)) (omega (arith, fits, some, l.invariant.room.saved_fit)) in
    rw c.start-scan.ensures (run_ends _ _ _ l.invariant c.next_run-run.ensures c.put.ensures
    c.is_whole.ensures c.if-is_whole.true
    (c.add.ensures ∙ added ∙ ap₂ (add_entry l.scan.totals) c.status_of-status.ensures c.file_size_of-size.ensures) c.hashed-scan.ensures)

pub overflow_sub-scan : goal.overflow_sub-scan
overflow_sub-scan c = c.next_run-run.ensures.some

pub bounds-taken-n : goal.bounds-taken-n
bounds-taken-n c = omega (arith, (let h : let s = c.args.bytes.now in let n = c.next_run-run.result.length in length (take n (take (length s - c.loop-i.i) (drop c.loop-i.i s))) ≡ n = run_length _ _ _ c.loop-i.invariant c.next_run-run.ensures in h), c.next_run-run.ensures.some)

pub loop-i-smaller : goal.loop-i-smaller
loop-i-smaller c = omega (arith, (let h : c.loop-i.i + c.next_run-run.result.length ≤ length c.args.bytes.now = run_fits _ _ _ c.loop-i.invariant c.next_run-run.ensures in h), c.next_run-run.ensures.some)

pub loop-i-preserved : goal.loop-i-preserved
loop-i-preserved c = run_goes_on _ _ _ c.loop-i.invariant c.next_run-run.ensures c.put.ensures
    c.is_whole.ensures c.if-is_whole.false

pub returns : goal.returns
returns c = let l = c.loop-i in kept_done _ _ _ l.i (omega arith) l.invariant
