-- Entries that were not granted bring nothing.
use Rattle.std.proofs.Common.{◌≡◌, false, cond, List, [], ◌∷◌, Option, None, refl, sym, ap, ◌∙◌, inl, inr}
use Rattle.std.specs.List.{cons_option, filter_map}
use Rattle.std.specs.Option.{unwrap_or}
use Rattle.std.proofs.lemmas.Bool.{cases_Bool}
use Rattle.object_core.specs.Objects.{ObjectEntry, latest, written, written_by, listed, listed_by, content_after, list_after, is_grant, granted_of, ChangesByGrants, StaysWhenDenied}
use Rattle.object_core.specs.Operation.{Op}
use Rattle.object_core.specs.declared.ruling.Ruling.{Ruling}
use Rattle.object_core.specs.declared.ruling.Ruling.TheVariants.{Granted, Denied}
use Rattle.object_core.proofs.Latest.{latest_more}

abbrev BringsByGrant : {X : Type 0} → (ObjectEntry → Option X) → Type 0
BringsByGrant by = (e : ObjectEntry) → is_grant e.ruling ≡ false → by e ≡ None

written_none : (r : Ruling) (op : Op) → is_grant r ≡ false → written r op ≡ None
written_none (Granted e) op is = absurd cc
written_none Denied op is = refl

listed_none : (r : Ruling) (op : Op) → is_grant r ≡ false → listed r op ≡ None
listed_none (Granted e) op is = absurd cc
listed_none Denied op is = refl

brought_by : {X : Type 0} (by : ObjectEntry → Option X) → BringsByGrant by → (journal : List ObjectEntry) → filter_map by (granted_of journal) ≡ filter_map by journal
brought_by by none [] = refl
brought_by by none (e ∷ es) = elim (cases_Bool (is_grant e.ruling)) [
  | inl is ↦ ap (λ b. filter_map by (cond b (e ∷ granted_of es) (granted_of es))) is ∙ ap (cons_option (by e)) (brought_by by none es)
  | inr isnt ↦ ap (λ b. filter_map by (cond b (e ∷ granted_of es) (granted_of es))) isnt ∙ brought_by by none es ∙ ap (λ o. cons_option o (filter_map by es)) (sym (none e isnt))
]

pub by_grants : ChangesByGrants
by_grants plan journal = (
  ap (latest plan.content) (brought_by written_by (λ e isnt. written_none e.ruling e.op isnt) journal),
  ap (latest plan.list) (brought_by listed_by (λ e isnt. listed_none e.ruling e.op isnt) journal),
)

pub stays_when_denied : StaysWhenDenied
stays_when_denied plan journal e denied =
    let isnt : is_grant e.ruling ≡ false = ap is_grant denied in (
      latest_more written_by plan.content journal e ∙ ap (λ o. unwrap_or o (content_after plan journal)) (written_none e.ruling e.op isnt),
      latest_more listed_by plan.list journal e ∙ ap (λ o. unwrap_or o (list_after plan journal)) (listed_none e.ruling e.op isnt),
    )
