-- Jobs that take their input in successive chunks (document 02, 2026-03: "Logs too long to hold"), and what each call on one must answer.
-- S is the type of a job; A, P and E are what a start, a push and an end are given; R is what a call answers, with the bytes lent to it.
--
--   Call A P E          a call on a job
--   Steps S A P E R     what the calls on a job answer, and the job that each leaves
--   step k s c          the answer to the call c on the job s, and the job that it leaves
--   answers k s cs      the answers to the calls cs, each on the job that the one before it left
--   after_pushes k s ps  the job that the pushes ps leave
--   Whole A P E R       what is to be answered, told by the bytes pushed since the start
--   Model A             what a job is to know: how it was started and the bytes pushed since; or that it is over
--   model_pushes w x p   the answer to a push on the model x, and the model that it leaves
--   model_ends w x e     that to an end
--   modelled w          the calls on the model
-- Assumes nothing.
use Rattle.std.specs.Prelude.{List, [], ◌∷◌, ◌++◌, ℕ}

pub data Call (A P E : Type 0) : Type 0 where
  start : A → Call A P E
  push : P → Call A P E
  end : E → Call A P E

pub record Steps (S A P E R : Type 0) : Type 0 where
  pub starts : A → R × S
  pub pushes : S → P → R × S
  pub ends : S → E → R × S

abbrev pub step : {S A P E R : Type 0} → Steps S A P E R → S → Call A P E → R × S
step k s (start a) = k.starts a
step k s (push p) = k.pushes s p
step k s (end e) = k.ends s e

abbrev pub answers : {S A P E R : Type 0} → Steps S A P E R → S → List (Call A P E) → List R
answers k s [] = []
answers k s (c ∷ cs) = (step k s c).0 ∷ answers k (step k s c).1 cs

abbrev pub after_pushes : {S A P E R : Type 0} → Steps S A P E R → S → List P → S
after_pushes k s [] = s
after_pushes k s (p ∷ ps) = after_pushes k (k.pushes s p).1 ps

pub record Whole (A P E R : Type 0) : Type 0 where
  -- the number that an answer says
  pub number : R → ℕ
  pub begun : A → R
  -- the bytes that a push brings
  pub chunk : P → List ℕ
  -- the answer to a push after these bytes
  pub taken : A → List ℕ → P → R
  -- the answer to an end: what the whole input gets in one call
  pub whole : A → List ℕ → E → R
  -- "20, first of all, pushed or ended after the end .. nothing changed"
  pub refused_push : P → R
  pub refused_end : E → R

pub data Model (A : Type 0) : Type 0 where
  going : A → List ℕ → Model A
  over : Model A

abbrev pub model_pushes : {A P E R : Type 0} → Whole A P E R → Model A → P → R × Model A
model_pushes w (going a m) p = (w.taken a m p, going a (m ++ w.chunk p))
model_pushes w over p = (w.refused_push p, over)

-- "the end finishes the job either way"
abbrev pub model_ends : {A P E R : Type 0} → Whole A P E R → Model A → E → R × Model A
model_ends w (going a m) e = (w.whole a m e, over)
model_ends w over e = (w.refused_end e, over)

abbrev pub modelled : {A P E R : Type 0} → Whole A P E R → Steps (Model A) A P E R
modelled w = record { starts = λ a. (w.begun a, going a []); pushes = model_pushes w; ends = model_ends w }
