-- The steps run on an inventory of two files, of 2 bytes and 1, opened for one code or the other.
--
--   replies s cs       the replies to changes, one after another, and to a count at the end
--   set_aside          a volume that is set aside, noted and withdrawn
--   taken_back         one that is taken back
--   other_code         volumes of the other code
-- Assumes nothing.
use mathlib.Core.Path.{◌≡◌, refl}
use mathlib.Core.List.{List, [], ◌∷◌}
use Prim.Native.Nat.{ℕ}
use Rattle.codes.specs.declared.Code.{Code}
use Rattle.codes.specs.declared.Code.TheVariants.{Powers, Cauchy}
use Rattle.inventory.specs.Model.{Change, add_volume, remove_volume, quarantine, release, Reply, numbered, counts}
use Rattle.inventory.specs.Steps.{is_inventory, if_inventory, nonempty_of, open_step, in_range, of_other_code, while_quarantined, already, change_number}
use Rattle.inventory.specs.Steps.{after_change, change_step, count_step}
use Rattle.inventory.specs.declared.Inventory.{Inventory}
use Rattle.number_sets.specs.Sets.{member, inserted, removed, size_below, within, apart}

replies : Inventory → List (Change × ℕ) → List Reply
replies s [] = count_step s ∷ []
replies s ((c, k) ∷ cs) = numbered (change_step c s k).number ∷ replies (change_step c s k).next cs

start : Code → Inventory
start d = (open_step d 2 (2 ∷ 1 ∷ [])).next

-- a volume that is set aside is noted (27) and set aside again (11); another is taken back (11); one out of range
-- is set aside and taken back (10, 10); it is withdrawn, and is neither (11, 11)
set_aside : replies (start Powers)
    ((add_volume Powers, 4)
    ∷ (quarantine, 4)
    ∷ (add_volume Powers, 4)
    ∷ (quarantine, 4)
    ∷ (release, 5)
    ∷ (quarantine, 254)
    ∷ (release, 254)
    ∷ (add_volume Powers, 253)
    ∷ (quarantine, 253)
    ∷ (remove_volume, 4)
    ∷ (remove_volume, 4)
    ∷ (release, 4)
    ∷ [])
    ≡ (numbered 0
    ∷ numbered 0
    ∷ numbered 27
    ∷ numbered 11
    ∷ numbered 11
    ∷ numbered 10
    ∷ numbered 10
    ∷ numbered 0
    ∷ numbered 0
    ∷ numbered 0
    ∷ numbered 11
    ∷ numbered 11
    ∷ counts 0 0 1
    ∷ [])
unfolding replies start is_inventory within apart if_inventory nonempty_of open_step in_range of_other_code while_quarantined already change_number after_change change_step count_step member inserted removed size_below
set_aside = refl

-- one that is taken back is in hand again
taken_back : replies (start Powers) ((add_volume Powers, 4) ∷ (quarantine, 4) ∷ (release, 4) ∷ (add_volume Powers, 4) ∷ [])
    ≡ (numbered 0 ∷ numbered 0 ∷ numbered 0 ∷ numbered 11 ∷ counts 0 1 0 ∷ [])
unfolding replies start is_inventory within apart if_inventory nonempty_of open_step in_range of_other_code while_quarantined already change_number after_change change_step count_step member inserted removed size_below
taken_back = refl

-- one of the other code is noted, whether it is in hand or set aside (29, 29, 29), or out of range (10); it changes nothing
other_code : replies (start Cauchy)
    ((add_volume Powers, 4)
    ∷ (add_volume Cauchy, 4)
    ∷ (add_volume Powers, 4)
    ∷ (quarantine, 4)
    ∷ (add_volume Powers, 4)
    ∷ (add_volume Powers, 254)
    ∷ (add_volume Cauchy, 253)
    ∷ [])
    ≡ (numbered 29
    ∷ numbered 0
    ∷ numbered 29
    ∷ numbered 0
    ∷ numbered 29
    ∷ numbered 10
    ∷ numbered 0
    ∷ counts 0 1 1
    ∷ [])
unfolding replies start is_inventory within apart if_inventory nonempty_of open_step in_range of_other_code while_quarantined already change_number after_change change_step count_step member inserted removed size_below
other_code = refl
