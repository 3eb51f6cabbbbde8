-- What a line adds to the objects of a node file, from what is found of the object.
use Rattle.std.proofs.Common.{◌≡◌, ℕ, ◌<◌, ◌≤◌, true, false, leb, ltb, List, ◌∷◌, ◌++◌, [], length, Option, Some, None, Ok, Err, refl, sym, ◌∙◌, arith}
use Rattle.std.specs.Option.{is_some}
use Rattle.std.proofs.lemmas.Bool.Decides.{nat_tests}
use Rattle.object_core.specs.Objects.{ObjectPlan, object_of}
use Rattle.prin_term.specs.Principal.{Principal}
use Rattle.prin_term.specs.View.{Grant, principal}
use Rattle.prin_text.specs.Labels.{Labels}
use Rattle.prin_text.specs.declared.lines.fault.FileCause.{FileCause}
use Rattle.prin_text.specs.declared.lines.fault.FileCause.TheVariants.{UnknownObject, Twice, Limit}
use Rattle.node_file.specs.NodeLines.{changed_at, contents_and, empty_object, grants_and, objects_and, who_said, with_content, with_grant}
use Rattle.prin_text.specs.declared.lines.line_fault.LineFault.{LineFault}
use Rattle.prin_text.specs.declared.lines.line_fault.LineFault.TheVariants as lines
use Rattle.prin_text.specs.Held.{HoldsRows}
use Rattle.prin_text.specs.LineView.{GivesLine, TakesLine}
use Rattle.node_file.specs.Plans.{HoldsPlans}
use Rattle.node_file.proofs.SamePrincipals.{same_who}

module _ (above : List ObjectPlan) (n : ℕ) where
  pub object_twice : is_some (object_of above n) ≡ true → objects_and above n ≡ Err Twice
  unfolding objects_and
  object_twice there = rw there refl

  pub object_full : is_some (object_of above n) ≡ false → 256 ≤ length above → objects_and above n ≡ Err Limit
  unfolding objects_and
  object_full absent full = let over : leb 256 (length above) ≡ true = grind (arith, nat_tests, full) in rw (absent, over) refl

  pub object_fits : is_some (object_of above n) ≡ false → length above < 256 → objects_and above n ≡ Ok (above ++ empty_object n ∷ [])
  unfolding objects_and
  object_fits absent room = let over : leb 256 (length above) ≡ false = grind (arith, nat_tests, room) in rw (absent, over) refl

  module _ (content : List ℕ) where
    pub content_unknown : object_of above n ≡ None → contents_and above (n, content) ≡ Err UnknownObject
    unfolding contents_and
    content_unknown none = rw none refl

    pub content_twice : (p : ObjectPlan) → object_of above n ≡ Some p → 0 < length p.content → contents_and above (n, content) ≡ Err Twice
    unfolding contents_and
    content_twice p there some = let full : ltb 0 (length p.content) ≡ true = grind (arith, nat_tests, some) in rw (there, full) refl

    pub content_long : (p : ObjectPlan) → object_of above n ≡ Some p → length p.content ≤ 0 → 4096 < length content → contents_and above (n, content) ≡ Err Limit
    unfolding contents_and
    content_long p there none long =
        let empty : ltb 0 (length p.content) ≡ false = grind (arith, nat_tests, none) in
        let over : ltb 4096 (length content) ≡ true = grind (arith, nat_tests, long) in
        rw (there, empty, over) refl

    pub content_fits : (p : ObjectPlan) → object_of above n ≡ Some p → length p.content ≤ 0 → length content ≤ 4096 → contents_and above (n, content) ≡ Ok (changed_at n (with_content content) above)
    unfolding contents_and
    content_fits p there none short =
        let empty : ltb 0 (length p.content) ≡ false = grind (arith, nat_tests, none) in
        let within : ltb 4096 (length content) ≡ false = grind (arith, nat_tests, short) in
        rw (there, empty, within) refl

  module _ (labels : Labels) (rights : ℕ) (text : List ℕ) where
    pub grant_unknown : object_of above n ≡ None → grants_and labels above (n, rights, text) ≡ Err UnknownObject
    unfolding grants_and
    grant_unknown none = rw none refl

    pub grant_refused : (p : ObjectPlan) (cause : FileCause) → object_of above n ≡ Some p → who_said labels text ≡ Err cause → grants_and labels above (n, rights, text) ≡ Err cause
    unfolding grants_and
    grant_refused p cause there refused = rw (there, refused) refl

    pub grant_full : (p : ObjectPlan) (who : Principal) → object_of above n ≡ Some p → who_said labels text ≡ Ok who → 8 ≤ length p.list → grants_and labels above (n, rights, text) ≡ Err Limit
    unfolding grants_and
    grant_full p who there said full = let over : leb 8 (length p.list) ≡ true = grind (arith, nat_tests, full) in rw (there, said, over) refl

    pub grant_fits : (p : ObjectPlan) (who : Principal) (g : Grant) → object_of above n ≡ Some p → who_said labels text ≡ Ok who → length p.list < 8 → g ≡ record { rights = rights; who = who }
        → grants_and labels above (n, rights, text) ≡ Ok (changed_at n (with_grant g) above)
    unfolding grants_and
    grant_fits p who g there said room same = let over : leb 8 (length p.list) ≡ false = grind (arith, nat_tests, room) in rw (there, said, over, same) refl

module _ (above : List ObjectPlan) (n : ℕ) (a b : Labels) (names : HoldsRows a.names b.names) (roles : HoldsRows a.roles b.roles) (rights : ℕ) (text : List ℕ) (p : ObjectPlan) (there : object_of above n ≡ Some p) where
  pub who_refused : (new : List ObjectPlan) (fault : LineFault) → GivesLine principal (Err fault) (who_said a text) → TakesLine HoldsPlans (Err fault) new (grants_and b above (n, rights, text))
  who_refused new lines.NoMemory gives = tt
  who_refused new (lines.Refused cause) gives = grant_refused above n b rights text p cause there (sym (same_who a b names roles text) ∙ gives)
