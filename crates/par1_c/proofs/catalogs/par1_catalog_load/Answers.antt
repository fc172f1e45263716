-- `par1_c::catalogs::par1_catalog_load` meets its contract.
-- Assumes nothing.
use Rattle.std.proofs.Common.{◌≡◌, ℕ, ◌≤◌, List, length, refl, ap, ap₂, ◌∙◌, arith}
use Rattle.catalog.specs.declared.records.Row.{Row}
use Rattle.catalog.proofs.RecordLaws.{records_to, filled_to, length_filled, filled_more}
use Rattle.par1_c.specs.declared.catalogs.LoadPlan.{LoadPlan}
use Rattle.par1_c.specs.Answers.{load_plan}
use Rattle.par1_c.proofs.LoadLaws.{plan_fits, plan_filled}
use Rattle.par1_c.proofs.catalogs.par1_catalog_load.Goals as goal

-- what is to be filled lies in the records
most : (b : List ℕ) (ys : List Row) (p : LoadPlan) → p ≡ load_plan b (length ys) → p.count ≤ length ys
most b ys p e = omega (arith, ap (λ (q : LoadPlan). q.count) e, plan_fits b ys)

-- a load in part keeps the number of records
kept : (b : List ℕ) (zs ys : List Row) (i : ℕ) → zs ≡ filled_to b i ys → i ≤ length ys → length zs ≡ length ys
kept b zs ys i e l = ap length e ∙ length_filled b i ys l

pub loop-i-init : goal.loop-i-init
unfolding records_to
loop-i-init c = refl

pub offset_bounds-rows-i : goal.offset_bounds-rows-i
offset_bounds-rows-i c =
    let few = most c.args.catalog.now c.args.rows.now c.load_plan-plan.result c.load_plan-plan.ensures in
    omega (arith, kept c.args.catalog.now c.loop-i.rows c.args.rows.now c.loop-i.i c.loop-i.invariant (omega arith))

pub bounds-rows-i : goal.bounds-rows-i
bounds-rows-i c =
    let few = most c.args.catalog.now c.args.rows.now c.load_plan-plan.result c.load_plan-plan.ensures in
    omega (arith, kept c.args.catalog.now c.loop-i.rows c.args.rows.now c.loop-i.i c.loop-i.invariant (omega arith))

pub loop-i-preserved : goal.loop-i-preserved
loop-i-preserved c =
    let few = most c.args.catalog.now c.args.rows.now c.load_plan-plan.result c.load_plan-plan.ensures in
    let more = filled_more c.args.catalog.now c.loop-i.i c.args.rows.now c.row_at.result c.row_at.ensures (omega arith) in
    rw c.loop-i.invariant more

pub returns : goal.returns
returns c =
    let ys = c.args.rows.now in
    let b = c.args.catalog.now in
    let e = c.load_plan-plan.ensures in
    let all : c.loop-i.i ≡ c.load_plan-plan.result.count = omega arith in
    ap₂ (λ (n : ℕ) (l : List Row). (n, l)) (ap (λ (q : LoadPlan). q.answer) e)
    (c.loop-i.invariant ∙ ap (λ (n : ℕ). filled_to b n ys) (all ∙ ap (λ (q : LoadPlan). q.count) e))
    ∙ plan_filled b ys
