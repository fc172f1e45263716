-- The hashes, as the code works them out.
--
--   length-md5, length-set_hash    a hash is 16 bytes
--   pushed_over h es   the running hash h after the entries es
--   set-start         from no bytes at all, its end is the set hash
--   set_more, set-none    an entry more; no entry more
-- Assumes nothing.
use mathlib.Core.Path.{◌≡◌, refl, sym, ap, ◌∙◌}
use mathlib.Core.Bool.{Bool, true, false, cond}
use mathlib.Core.List.{List, [], ◌∷◌, ◌++◌, append_assoc, append-nil, map, flatten}
use Prim.Native.Nat.{ℕ}
use lib.ListN.{length, take, drop}
use Rattle.md5_digest.specs.declared.Md5.{Md5}
use Rattle.md5_digest.specs.Digest.{md5}
use Rattle.md5_digest.specs.Running.{state_of, pushed, finished}
use Rattle.md5_digest.proofs.Output.{length-output}
use Rattle.md5_digest.proofs.Running.{push_state, finish_state}
use Rattle.entries.specs.Entry.{status_of, is_saved, md5_of}
use Rattle.entries.specs.Numbering.{saved_of}
use Rattle.entries.specs.Walk.{entries_of}
use Rattle.entries.proofs.EntryLaws.{IsEntry}
use Rattle.entries.proofs.WalkLaws.{entries_more}
use Rattle.par1_rules.specs.Hashes.{set_hash, hash_entry}

pub length-md5 : (m : List ℕ) → length (md5 m) ≡ 16
unfolding md5
length-md5 m = length-output _

pub length-set_hash : (es : List (List ℕ)) → length (set_hash es) ≡ 16
unfolding set_hash
length-set_hash es = length-md5 _

-- ---- the set hash

unfoldable pub pushed_over : Md5 → List (List ℕ) → Md5
pushed_over h [] = h
pushed_over h (e ∷ es) = pushed_over (hash_entry h (status_of e) (md5_of e)) es

joined : List (List ℕ) → List ℕ
joined es = flatten (map (λ e. md5_of e) es)

push_one : (b : Bool) (m : List ℕ) (e : List ℕ) (es : List (List ℕ))
    → state_of (cond b (m ++ md5_of e) m ++ joined es) ≡ state_of (m ++ joined (cond b (e ∷ es) es))
unfolding joined flatten
push_one true m e es = ap state_of (append_assoc m (md5_of e) (joined es))
push_one false m e es = refl

cond_state : (b : Bool) (m t : List ℕ) → cond b (pushed (state_of m) t) (state_of m) ≡ state_of (cond b (m ++ t) m)
cond_state true m t = push_state m t
cond_state false m t = refl

over_state : (m : List ℕ) (es : List (List ℕ)) → pushed_over (state_of m) es ≡ state_of (m ++ joined (saved_of es))
unfolding pushed_over joined flatten
over_state m [] = ap state_of (sym (append-nil m))
over_state m (e ∷ es) = let b : Bool = is_saved (status_of e) in
    ap (λ (h : Md5). pushed_over h es) (cond_state b m (md5_of e))
    ∙ over_state (cond b (m ++ md5_of e) m) es ∙ push_one b m e (saved_of es)

pub set-start : (es : List (List ℕ)) → finished (pushed_over (state_of []) es) ≡ set_hash es
unfolding set_hash joined
set-start es = ap finished (over_state [] es) ∙ finish_state (joined (saved_of es))

module _ (h : Md5) where
  pub set_more : {s : List ℕ} {n status size : ℕ} → IsEntry s n status size
      → pushed_over (hash_entry h status (md5_of (take n s))) (entries_of (drop n s)).pieces ≡ pushed_over h (entries_of s).pieces
  unfolding pushed_over
  set_more {s} {n} i =
      ap (λ (x : ℕ). pushed_over (hash_entry h x (md5_of (take n s))) (entries_of (drop n s)).pieces) i.status_is
      ∙ ap (λ c. pushed_over h c.pieces) (sym (entries_more i))

  pub set-none : {es : List (List ℕ)} → es ≡ [] → pushed_over h es ≡ h
  unfolding pushed_over
  set-none e = simp e
