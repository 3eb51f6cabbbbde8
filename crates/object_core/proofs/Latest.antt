-- The latest of what entries bring, and the place of the entry that brought it.
use Rattle.std.proofs.Common.{◌≡◌, refl, sym, subst, ap, ◌∙◌, ℕ, zero, suc, Bool, ◌<◌, ◌≤◌, if◌then◌else◌, List, [], ◌∷◌, ◌++◌, length, map, Option, Some, None, arith, vec_capacity, Vec, Global}
use Rattle.std.specs.List.{cons_option, filter_map, slice_get}
use Rattle.std.specs.Option.{is_some, unwrap_or}
use Rattle.std.proofs.lemmas.List.{length-append, length-map, map-append}
use Rattle.std.proofs.lemmas.List.Elements.{filter_map-append}
use Rattle.object_core.specs.declared.entry.ObjectEntry as code
use Rattle.object_core.specs.Objects.{ObjectEntry, ObjectPlan, latest, written, written_by, listed, listed_by, content_after, list_after}
use Rattle.object_core.specs.Kept.{IsLatest, IsObject}
use Rattle.object_core.specs.ObjectView.{object_entry}
use Rattle.object_core.specs.Operation.{Op, Read, Write, SetList, Hold, Discard, Forget, Sweep, Withdraw, FitsOperation, IsAccessList, IsContent}
use Rattle.object_core.specs.declared.ruling.Ruling.{Ruling}
use Rattle.prin_term.specs.View.{Grant}
use Rattle.object_core.specs.declared.ruling.Ruling.TheVariants.{Granted, Denied}

latest-append : {X : Type 0} (x : X) (xs ys : List X) → latest x (xs ++ ys) ≡ latest (latest x xs) ys
latest-append x [] ys = refl
latest-append x (y ∷ xs) ys = latest-append y xs ys

pub get_front : {X : Type 0} (xs ys : List X) (i : ℕ) (x : X) → slice_get xs i ≡ Some x → slice_get (xs ++ ys) i ≡ Some x
get_front [] ys i x is = absurd cc
get_front (z ∷ xs) ys zero x is = is
get_front (z ∷ xs) ys (suc i) x is = get_front xs ys i x is

pub get_end : {X : Type 0} (xs : List X) (x : X) → slice_get (xs ++ x ∷ []) (length xs) ≡ Some x
get_end [] x = refl
get_end (z ∷ xs) x = get_end xs x

last_of : {X : Type 0} (x : X) (o : Option X) → latest x (cons_option o []) ≡ unwrap_or o x
last_of x None = refl
last_of x (Some y) = refl

-- the latest of the entries and one more
pub latest_more : {X : Type 0} (by : ObjectEntry → Option X) (x : X) (journal : List ObjectEntry) (e : ObjectEntry) →
    latest x (filter_map by (journal ++ e ∷ [])) ≡ unwrap_or (by e) (latest x (filter_map by journal))
latest_more by x journal e =
    ap (latest x) (filter_map-append by journal (e ∷ [])) ∙ latest-append x (filter_map by journal) (filter_map by (e ∷ [])) ∙ last_of (latest x (filter_map by journal)) (by e)

-- the place of the latest, where an entry more came
place_more : {X : Type 0} (by : ObjectEntry → Option X) (x : X) (journal : List ObjectEntry) (e : ObjectEntry) (place : Option ℕ) (o : Option X) → by e ≡ o →
    IsLatest by x journal place → IsLatest by x (journal ++ e ∷ []) (if is_some o then Some (length journal) else place)
place_more by x journal e place (Some y) is before =
    (e, get_end journal e, is ∙ ap Some (sym (latest_more by x journal e ∙ ap (λ o. unwrap_or o (latest x (filter_map by journal))) is)))
place_more by x journal e None None is before =
    latest_more by x journal e ∙ ap (λ o. unwrap_or o (latest x (filter_map by journal))) is ∙ before
place_more by x journal e (Some i) None is before = (
  before.0,
  get_front journal (e ∷ []) i before.0 before.1,
  before.2 ∙ ap Some (sym (latest_more by x journal e ∙ ap (λ o. unwrap_or o (latest x (filter_map by journal))) is)),
)

-- what an operation brings fits, and so does what stays where it brings none
brought : (r : Ruling) (op : Op) (content : List ℕ) (list : List Grant) → FitsOperation op → IsContent content → IsAccessList list →
    IsContent (unwrap_or (written r op) content) × IsAccessList (unwrap_or (listed r op) list)
brought (Granted e) Read content list fits content_fits listed_fits = (content_fits, listed_fits)
brought (Granted e) (Write new) content list fits content_fits listed_fits = (fits, listed_fits)
brought (Granted e) (SetList new) content list fits content_fits listed_fits = (content_fits, fits)
brought (Granted e) Hold content list fits content_fits listed_fits = (content_fits, listed_fits)
brought (Granted e) (Discard digest) content list fits content_fits listed_fits = (content_fits, listed_fits)
brought (Granted e) (Forget channel) content list fits content_fits listed_fits = (content_fits, listed_fits)
brought (Granted e) Sweep content list fits content_fits listed_fits = (content_fits, listed_fits)
brought (Granted e) (Withdraw issuer) content list fits content_fits listed_fits = (content_fits, listed_fits)
brought Denied op content list fits content_fits listed_fits = (content_fits, listed_fits)

-- an object without entries, with room for them
pub opened_object : (plan : ObjectPlan) (limit : ℕ) (entries : Vec code.ObjectEntry Global) → IsContent plan.content → IsAccessList plan.list →
    entries.items ≡ [] → limit ≤ vec_capacity entries → IsObject plan limit entries None None
opened_object plan limit entries content list none room = record {
  content_fits = subst (λ (js : List code.ObjectEntry). IsContent (content_after plan (map object_entry js))) (sym none) content;
  list_fits = subst (λ (js : List code.ObjectEntry). IsAccessList (list_after plan (map object_entry js))) (sym none) list;
  within = subst (λ (js : List code.ObjectEntry). length js ≤ limit) (sym none) (omega arith);
  room = room;
  written_at = subst (λ (js : List code.ObjectEntry). IsLatest written_by plan.content (map object_entry js) None) (sym none) refl;
  listed_at = subst (λ (js : List code.ObjectEntry). IsLatest listed_by plan.list (map object_entry js) None) (sym none) refl;
}

-- an object with one entry more
pub applied_object : (plan : ObjectPlan) (limit : ℕ) (before after : Vec code.ObjectEntry Global) (w l : Option ℕ) (e : code.ObjectEntry) →
    IsObject plan limit before w l → length before.items < limit → FitsOperation (object_entry e).op →
    after.items ≡ before.items ++ e ∷ [] → vec_capacity before ≤ vec_capacity after →
    IsObject plan limit after
    (if is_some (written_by (object_entry e)) then Some (length before.items) else w)
    (if is_some (listed_by (object_entry e)) then Some (length before.items) else l)
applied_object plan limit before after w l e was free fits adds grows =
    let journal = map object_entry before.items in
    let (content_fits, list_fits) = brought e.ruling (object_entry e).op (content_after plan journal) (list_after plan journal) fits was.content_fits was.list_fits in
    let more : map object_entry after.items ≡ journal ++ object_entry e ∷ [] = ap (map object_entry) adds ∙ map-append object_entry before.items (e ∷ []) in
    record {
      content_fits = subst (λ js. IsContent (content_after plan js)) (sym more)
          (subst IsContent (sym (latest_more written_by plan.content journal (object_entry e))) content_fits);
      list_fits = subst (λ js. IsAccessList (list_after plan js)) (sym more)
          (subst IsAccessList (sym (latest_more listed_by plan.list journal (object_entry e))) list_fits);
      within = omega (arith, free, ap length adds ∙ length-append before.items (e ∷ []));
      room = omega (arith, was.room, grows);
      written_at = subst (λ js. IsLatest written_by plan.content js (if is_some (written_by (object_entry e)) then Some (length before.items) else w)) (sym more)
          (subst (λ n. IsLatest written_by plan.content (journal ++ object_entry e ∷ []) (if is_some (written_by (object_entry e)) then Some n else w)) (length-map before.items object_entry)
          (place_more written_by plan.content journal (object_entry e) w (written_by (object_entry e)) refl was.written_at));
      listed_at = subst (λ js. IsLatest listed_by plan.list js (if is_some (listed_by (object_entry e)) then Some (length before.items) else l)) (sym more)
          (subst (λ n. IsLatest listed_by plan.list (journal ++ object_entry e ∷ []) (if is_some (listed_by (object_entry e)) then Some n else l)) (length-map before.items object_entry)
          (place_more listed_by plan.list journal (object_entry e) l (listed_by (object_entry e)) refl was.listed_at));
    }

-- the place, where it counts, else the one before: by what was found of the entry
abbrev Later : Bool → ℕ → Option ℕ → Option ℕ → Type 0
Later counts place before after = after ≡ (if counts then Some place else before)

-- the same by what the code has found
pub applied_as : (plan : ObjectPlan) (limit : ℕ) (before after : Vec code.ObjectEntry Global) (w l w' l' : Option ℕ) (e : code.ObjectEntry) (writes lists : Bool) (place : ℕ) →
    IsObject plan limit before w l → length before.items < limit → FitsOperation (object_entry e).op →
    after.items ≡ before.items ++ e ∷ [] → vec_capacity before ≤ vec_capacity after →
    place ≡ length before.items → writes ≡ is_some (written_by (object_entry e)) → lists ≡ is_some (listed_by (object_entry e)) →
    Later writes place w w' → Later lists place l l' → IsObject plan limit after w' l'
applied_as plan limit before after w l w' l' e writes lists place was free fits adds grows placed wrote set written_later listed_later =
    rw written_later (rw listed_later (rw placed (rw wrote (rw set (applied_object plan limit before after w l e was free fits adds grows)))))
