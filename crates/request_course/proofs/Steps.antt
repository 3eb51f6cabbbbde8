-- One frame more.
use Rattle.std.proofs.Common.{ℕ, List, [], ◌∷◌, ◌++◌, None, Some, refl, sym, subst, ◌∙◌}
use Rattle.std.specs.Prelude.{Bool, Option, is_some, All, AllPairs}
use Rattle.std.specs.Io.KnownBytes.{Keeps}
use Rattle.std.proofs.KnownBytes.{Keeps-refl, Keeps-trans}
use Rattle.std.proofs.lemmas.List.Elements.{All-push, All-nil}
use Rattle.frame_link.specs.Readings.{Shows, ShowsKnown}
use Rattle.cred_pull.specs.Fetching.{FetchSeen, Pull}
use Rattle.request_course.specs.Cells.{AreLegal, GoesOn}
use Rattle.request_course.specs.World.{FetchUse, Setting, World}
use Rattle.request_course.specs.Credentials.{IsLinked}
use Rattle.request_course.specs.Handling.{Gave, AreFetched, ArePulls, PullsFor}
use Rattle.request_course.specs.Connection.{AnswersFrame}
use Rattle.request_course.specs.Run.{Turn, IsCourse, IsFilledBefore, readings_of, pulls_of, calls_of, places_of}
use Rattle.request_course.proofs.Going.{goes_on_twice, stood}
use Rattle.relay_core.proofs.Counting.{none_called, quiet_linked, linked_both}
use Rattle.request_course.proofs.Filling.{none_filled, filled_more}
use Rattle.request_course.proofs.Running.{all_stay, flat_push}
use Rattle.request_course.proofs.Staying.{turn_at_all}

-- ---- readings, one list after the other

shows_kept : (a b c : Option (List ℕ)) (x : ℕ) → Keeps a b → ShowsKnown b c x → ShowsKnown a c x
shows_kept None b c x k s = tt
shows_kept (Some xs) None c x k s = absurd k
shows_kept (Some xs) (Some ys) None x k s = absurd s
shows_kept (Some xs) (Some ys) (Some zs) x k s = subst (λ (l : List ℕ). Shows l zs x) k s

gave_kept : (a b c : Option (List ℕ)) (xs : List ℕ) → Keeps a b → Gave b c xs → Gave a c xs
gave_kept a b c [] k g = Keeps-trans a b c k g
gave_kept a b c (x ∷ xs) k g = (g.0, shows_kept a b g.0 x k g.1, g.2)

pub gave_on : (a b c : Option (List ℕ)) (xs ys : List ℕ) → Gave a b xs → Gave b c ys → Gave a c (xs ++ ys)
gave_on a b c [] ys g h = gave_kept a b c ys g h
gave_on a b c (x ∷ xs) ys g h = (g.0, g.1, gave_on g.0 b c xs ys g.2 h)

-- ---- calls of the fetch, one list after the other

fetched_on : (a b c : FetchSeen) (xs ys : List Pull) → AreFetched a b xs → AreFetched b c ys → AreFetched a c (xs ++ ys)
fetched_on a b c [] ys g h = subst (λ (f : FetchSeen). AreFetched f c ys) g h
fetched_on a b c (x ∷ xs) ys g h = (g.0, g.1, fetched_on g.0 b c xs ys g.2 h)

pub pulls_on : (a b c : FetchUse) (xs ys : List Pull) → ArePulls a b xs → ArePulls b c ys → ArePulls a c (xs ++ ys)
pulls_on a b c xs ys g h = (h.0 ∙ g.0, fetched_on a.seen b.seen c.seen xs ys g.1 h.1)

-- ---- turns

module _ (s : Setting) where
  -- the turns had their courses one after the other
  pub record Made (w0 w1 : World) (turns : List Turn) : Type 0 where
    pub courses : All (IsCourse s.node w1.seen.journals) turns
    pub filled : AllPairs (IsFilledBefore w1.seen.journals) turns
    pub goes_on : GoesOn s.alone w0.seen w1.seen (places_of turns)
    pub legal : AreLegal s.node w1.seen.journals
    pub gave : Gave w0.outside.clock.told w1.outside.clock.told (readings_of turns)
    pub linked : IsLinked s.node.number w0.outside.link w1.outside.link (calls_of turns)
    pub fetched : ArePulls w0.fetch w1.fetch (pulls_of turns)
    pub asked : All (λ t. PullsFor w0.fetch.pulls (is_some t.sent.key) t.used.pulls) turns

  pub none_made : (w : World) → AreLegal s.node w.seen.journals → Made w w []
  none_made w legal = record {
    courses = All-nil (IsCourse s.node w.seen.journals);
    filled = none_filled w.seen.journals;
    goes_on = stood s.alone w.seen;
    legal = legal;
    gave = Keeps-refl w.outside.clock.told;
    linked = quiet_linked s.node.number w.outside.link w.outside.link [] (none_called s.node.number w.outside.link);
    fetched = (refl, refl);
    asked = All-nil (λ (t : Turn). PullsFor w.fetch.pulls (is_some t.sent.key) t.used.pulls);
  }

  -- the turn of a frame that was answered
  abbrev pub turn_of : (w1 : World) (payload reply : List ℕ) (w2 : World) → AnswersFrame s w1 payload reply w2 → Turn
  turn_of w1 payload reply w2 x = record { frame = payload; used = x.used; sent = x.sent }

  its_course : (w1 : World) (payload reply : List ℕ) (w2 : World) (x : AnswersFrame s w1 payload reply w2) → IsCourse s.node w2.seen.journals (turn_of w1 payload reply w2 x)
  its_course w1 payload reply w2 x = turn_at_all s.node w1.seen.journals w2.seen.journals payload x.used x.sent x.course

  pub one_more : (w0 w1 w2 : World) (turns : List Turn) (payload reply : List ℕ) → Made w0 w1 turns → (x : AnswersFrame s w1 payload reply w2) →
      Made w0 w2 (turns ++ turn_of w1 payload reply w2 x ∷ [])
  one_more w0 w1 w2 turns payload reply m x =
      let t = turn_of w1 payload reply w2 x in
      record {
        courses = All-push (IsCourse s.node w2.seen.journals) turns t (all_stay s.node w1.seen.journals w2.seen.journals x.goes_on.goes_on x.legal turns m.courses) (its_course w1 payload reply w2 x);
        filled = filled_more s.node w1.seen.journals w2.seen.journals x.goes_on.goes_on x.legal turns m.courses m.filled t (its_course w1 payload reply w2 x) x.goes_on.new_places;
        goes_on = subst (GoesOn s.alone w0.seen w2.seen) (sym (flat_push (λ (u : Turn). u.used.places) turns t)) (goes_on_twice s.alone w0.seen w1.seen w2.seen (places_of turns) x.used.places m.goes_on x.goes_on);
        legal = x.legal;
        gave = subst (Gave w0.outside.clock.told w2.outside.clock.told) (sym (flat_push (λ (u : Turn). u.used.readings) turns t)) (gave_on w0.outside.clock.told w1.outside.clock.told w2.outside.clock.told (readings_of turns) x.used.readings m.gave x.gave);
        linked = subst (IsLinked s.node.number w0.outside.link w2.outside.link) (sym (flat_push (λ (u : Turn). u.used.calls) turns t)) (linked_both s.node.number w0.outside.link w1.outside.link w2.outside.link (calls_of turns) x.used.calls m.linked x.linked);
        fetched = subst (ArePulls w0.fetch w2.fetch) (sym (flat_push (λ (u : Turn). u.used.pulls) turns t)) (pulls_on w0.fetch w1.fetch w2.fetch (pulls_of turns) x.used.pulls m.fetched x.fetched);
        asked = All-push (λ (u : Turn). PullsFor w0.fetch.pulls (is_some u.sent.key) u.used.pulls) turns t m.asked (subst (λ (b : Bool). PullsFor b (is_some x.sent.key) x.used.pulls) m.fetched.0 x.asked);
      }
