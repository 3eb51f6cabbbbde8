-- Objects that are gathered in a map by number, and what they stand for.
use Rattle.std.proofs.Common.{◌≡◌, ◌≢◌, ℕ, zero, suc, ◌+◌, ◌<◌, cond, eqb, List, [], ◌∷◌, ◌++◌, length, map, get_or, Option, Some, None, MutBor, BTreeMap, refl, sym, ap, subst, ◌∙◌, arith}
use Rattle.std.specs.BTreeMap.{is_at, get, btree_map_len, Updates}
use Rattle.std.specs.List.Sorted.{IsStrictlySortedBy}
use Rattle.std.specs.Map.{lookup, keys_of}
use Rattle.std.specs.Option.{IsSome, option_copied_mut, option_map}
use Rattle.std.specs.Ordering.{nat_cmp}
use Rattle.std.proofs.lemmas.List.{length-map, map-append}
use Rattle.std.proofs.lemmas.Map.Keys.{below_from_sorted}
use Rattle.byte_fields.specs.Rows.{value_of}
use Rattle.object_core.specs.Objects.{ObjectPlan, object_of}
use Rattle.node_file.specs.declared.object_drafts.ObjectDraft.{ObjectDraft}
use Rattle.prin_term.specs.declared.term.Entry.{Entry}
use Rattle.prin_term.specs.View.{Grant, grant}
use Rattle.node_file.specs.NodeLines.{with_grant}
use Rattle.node_file.specs.Plans.{AddsPlan, AreByNumber, ChangesPlan, drafted, number_at}
use Rattle.prin_text.proofs.Gathered.{is_other, value_of-get}

abbrev pub Drafts : Type 0
Drafts = List (ℕ × ObjectDraft)

object_of-drafted : (es : Drafts) (n : ℕ) → object_of (map drafted es) n ≡ value_of (λ e. e.0) drafted es n
object_of-drafted [] n = refl
object_of-drafted (e ∷ es) n = ap (cond (eqb e.0 n) (Some (drafted e))) (object_of-drafted es n)

-- the object of a number is what the map has at it
pub object_of-get : (es : Drafts) (n : ℕ) → object_of (map drafted es) n ≡ option_map (λ o. drafted (n, o)) (lookup (is_at (nat_cmp n)) es)
object_of-get es n = object_of-drafted es n ∙ value_of-get drafted es n

none_from : (f : ObjectDraft → ObjectPlan) (o : Option ObjectDraft) → option_map f o ≡ None → o ≡ None
none_from f None e = refl
none_from f (Some x) e = absurd cc

some_from : (f : ObjectDraft → ObjectPlan) (o : Option ObjectDraft) → IsSome (option_map f o) → IsSome o
some_from f None is = is
some_from f (Some x) is = refl

pub none_at : (es : Drafts) (n : ℕ) → object_of (map drafted es) n ≡ None → lookup (is_at (nat_cmp n)) es ≡ None
none_at es n none = none_from (λ o. drafted (n, o)) _ (sym (object_of-get es n) ∙ none)

pub some_at : (es : Drafts) (n : ℕ) → IsSome (object_of (map drafted es) n) → IsSome (lookup (is_at (nat_cmp n)) es)
some_at es n some = some_from (λ o. drafted (n, o)) _ (subst (λ (o : Option ObjectPlan). IsSome o) (object_of-get es n) some)

-- what is lent for a number that is there
pub some_lent : (r : Option (MutBor ObjectDraft)) (o : Option ObjectDraft) → option_copied_mut r ≡ o → IsSome o → IsSome r
some_lent None o e some = subst (λ (o : Option ObjectDraft). IsSome o) (sym e) some
some_lent (Some x) o e some = refl

module _ (old new : BTreeMap ℕ ObjectDraft) (number : ℕ) (object : ObjectDraft) (updates : Updates nat_cmp old new number (Some object)) where
  here : object_of (map drafted new.entries) number ≡ Some (drafted (number, object))
  here = object_of-get new.entries number ∙ ap (option_map (λ o. drafted (number, o))) updates.1

  others : (n : ℕ) → n ≢ number → object_of (map drafted new.entries) n ≡ object_of (map drafted old.entries) n
  others n other = object_of-get new.entries n ∙ ap (option_map (λ o. drafted (n, o))) (updates.2 n (is_other number n other)) ∙ sym (object_of-get old.entries n)

  -- one more object in the map adds it
  pub gathers_plan : btree_map_len new ≡ btree_map_len old + 1 → AddsPlan (map drafted old.entries) (map drafted new.entries) (drafted (number, object))
  gathers_plan count = record { this_plan = here; other_plans = others; count = omega (arith, count, length-map new.entries drafted, length-map old.entries drafted) }

  -- another object under the same number changes it
  pub changes_gathered : (was : ObjectDraft) (change : ObjectPlan → ObjectPlan) → get nat_cmp old number ≡ Some was → change (drafted (number, was)) ≡ drafted (number, object) → btree_map_len new ≡ btree_map_len old
      → ChangesPlan (map drafted old.entries) (map drafted new.entries) number change
  changes_gathered was change there changed count = record {
    this_plan = here ∙ ap (λ (p : ObjectPlan). Some p) (sym changed) ∙ sym (ap (option_map change) (object_of-get old.entries number ∙ ap (option_map (λ o. drafted (number, o))) there));
    other_plans = others;
    count = omega (arith, count, length-map new.entries drafted, length-map old.entries drafted);
  }

-- an object with one more entry is one that an entry is added to
pub entry_added : (n : ℕ) (was object : ObjectDraft) (entry : Entry) → object.content ≡ was.content → object.list.items ≡ was.list.items ++ entry ∷ [] → with_grant (grant entry) (drafted (n, was)) ≡ drafted (n, object)
entry_added n was object entry same longer =
    let plan_of : List ℕ → List Grant → ObjectPlan = λ content list. record { number = n; content = content; list = list } in
    ap (λ content. plan_of content.items (map grant was.list.items ++ grant entry ∷ [])) (sym same)
    ∙ ap (plan_of object.content.items) (sym (ap (map grant) longer ∙ map-append grant was.list.items (entry ∷ [])))

-- ---- their order

number_at-drafted : (es : Drafts) (i : ℕ) → number_at (map drafted es) i ≡ get_or (keys_of es) i 0
number_at-drafted [] i = refl
number_at-drafted (e ∷ es) zero = refl
number_at-drafted (e ∷ es) (suc i) = number_at-drafted es i

pub by_number : (es : Drafts) → IsStrictlySortedBy nat_cmp (keys_of es) → AreByNumber (map drafted es)
by_number es sorted i j lt within =
    let below = below_from_sorted (keys_of es) i j 0 sorted lt (omega (arith, within, length-map es drafted, length-map es (λ (e : ℕ × ObjectDraft). e.0))) in
    omega (arith, below, number_at-drafted es i, number_at-drafted es j)
