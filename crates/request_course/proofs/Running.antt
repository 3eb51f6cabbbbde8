-- What is answered stays so, and one frame more.
use Rattle.std.proofs.Common.{◌≡◌, ℕ, List, [], ◌∷◌, ◌++◌, All, sym, ap, ◌∙◌, append-nil}
use Rattle.std.specs.List.{flat_map}
use Rattle.std.proofs.lemmas.List.{map_push}
use Rattle.std.proofs.lemmas.Grind.{flat_map-append}
use Rattle.std.proofs.lemmas.List.Concat.{flat_map-cons}
use Rattle.std.proofs.lemmas.List.Elements.{All-nil, All-cons, All-append}
use Rattle.taos_wire.specs.Reply.{spelling}
use Rattle.cred_pull.specs.Fetching.{Pull}
use Rattle.request_course.specs.Cells.{Node, Journals, Place, AreLegal, Extends}
use Rattle.request_course.specs.Credentials.{LinkCall}
use Rattle.request_course.specs.Run.{Turn, IsCourse}
use Rattle.request_course.specs.Laws.{AnsweredStays, AnswersMore}
use Rattle.request_course.proofs.Filling.{filled_stays, filled_more}
use Rattle.request_course.proofs.Staying.{turn_stays}

pub all_stay : (n : Node) (J K : Journals) → Extends J K → AreLegal n K → (turns : List Turn) → All (IsCourse n J) turns → All (IsCourse n K) turns
all_stay n J K goes legal turns all = λ k d lt. turn_stays n J K goes legal _ _ _ (all k d lt)

pub answered_stays : (n : Node) → AnsweredStays n
answered_stays n J K goes legal used frames replies outcome a = record {
  turns = a.turns;
  courses = all_stay n J K goes legal a.turns a.courses;
  in_order = a.in_order;
  read = a.read;
  owned = a.owned;
  ascending = a.ascending;
  filled = filled_stays n J K goes a.turns a.courses a.filled;
  replies_are = a.replies_are;
}

pub flat_push : {X Y : Type 0} (f : X → List Y) (xs : List X) (x : X) → flat_map f (xs ++ x ∷ []) ≡ flat_map f xs ++ f x
flat_push f xs x = flat_map-append f xs (x ∷ []) ∙ ap (λ l. flat_map f xs ++ l) (flat_map-cons f x [] ∙ append-nil (f x))

pub answers_more : (n : Node) → AnswersMore n
answers_more n J K goes legal used frames replies count a t course ascending new = record {
  turns = a.turns ++ t ∷ [];
  courses = All-append (IsCourse n K) a.turns (t ∷ []) (all_stay n J K goes legal a.turns a.courses) (All-cons (IsCourse n K) t [] course (All-nil (IsCourse n K)));
  in_order = (
    ap (λ (l : List (List ℕ)). l ++ t.frame ∷ []) a.in_order.0 ∙ sym (map_push (λ (u : Turn). u.frame) a.turns t),
    ap (λ (l : List Pull). l ++ t.used.pulls) a.in_order.1 ∙ sym (flat_push (λ (u : Turn). u.used.pulls) a.turns t),
    ap (λ (l : List LinkCall). l ++ t.used.calls) a.in_order.2 ∙ sym (flat_push (λ (u : Turn). u.used.calls) a.turns t),
  );
  read = ap (λ (l : List ℕ). l ++ t.used.readings) a.read ∙ sym (flat_push (λ (u : Turn). u.used.readings) a.turns t);
  owned = ap (λ (l : List Place). l ++ t.used.places) a.owned ∙ sym (flat_push (λ (u : Turn). u.used.places) a.turns t);
  ascending = ascending;
  filled = filled_more n J K goes legal a.turns a.courses a.filled t course new;
  replies_are = ap (λ (l : List (List ℕ)). l ++ spelling t.sent ∷ []) a.replies_are ∙ sym (map_push (λ (u : Turn). spelling u.sent) a.turns t);
}
