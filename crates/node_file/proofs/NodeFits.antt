-- What a node file means is within the limits.
use Rattle.std.proofs.Common.{◌≡◌, ℕ, ◌^◌, ◌<◌, ◌≤◌, Bool, true, false, cond, ltb, eqb, List, [], ◌∷◌, ◌++◌, length, Option, None, Some, Result, Ok, Err, refl, sym, ap, subst, ◌∙◌, arith, inl, inr, length-append}
use Rattle.std.specs.Prelude.{All, bytes_eq, codes, nat_le}
use Rattle.std.specs.Option.{is_some, option_map}
use Rattle.std.proofs.lemmas.Bool.{eqb-true}
use Rattle.std.proofs.lemmas.Bool.Decides.{nat_tests}
use Rattle.std.proofs.lemmas.List.Elements.{All-head, All-nil, All-push, All-tail}
use Rattle.std.proofs.lemmas.Option.{none-some, same_Some}
use Rattle.object_core.specs.Objects.{ObjectPlan, object_of}
use Rattle.object_core.specs.Operation.{FitsGrant}
use Rattle.prin_term.specs.Kind as kinds
use Rattle.prin_term.specs.Kind.{Kind, pair}
use Rattle.prin_term.specs.Principal.{Principal, Key, Name, And, Quoting, InRole, For, HasSpelling, node_count}
use Rattle.prin_term.specs.Refusal.{FitsLimits}
use Rattle.byte_fields.specs.Steps.{◌>>=◌, IsByte, with_fault}
use Rattle.prin_term.specs.View.{Grant}
use Rattle.prin_term.specs.declared.limits.TheConstants.{ENTRY_NODES}
use Rattle.byte_fields.proofs.Results.{bind_ok, chosen_ok, ok_is, with_fault_ok}
use Rattle.prin_text.specs.Labels.{Labels, Rows, number_of}
use Rattle.prin_text.specs.Meaning.{Written, Atom, Group, Pair, RoleOf, IsAtom, IsProper, IsNamed, meaning}
use Rattle.prin_text.specs.Reading.{principal_in}
use Rattle.prin_text.specs.Words.{rights_of}
use Rattle.prin_text.proofs.Entered.{rights_of-ok}
use Rattle.prin_text.proofs.Whole.{read_is_meant}
use Rattle.prin_text.specs.declared.lines.fault.FileCause.{FileCause}
use Rattle.prin_text.specs.declared.lines.fault.FileCause.TheVariants as causes
use Rattle.prin_text.specs.declared.lines.fault.FileCause.TheVariants.{Twice, Limit, Rights, UnknownObject}
use Rattle.prin_text.specs.Fields.{bytes_of_digits, digits_of, granted, number_up_to, numbered, numbered_digits, some_or, two_and_rest}
use Rattle.prin_text.specs.FileLines.{first_of, unless}
use Rattle.node_file.specs.NodeLines.{changed_at, changed_if, contents_and, empty_object, grants_and, objects_and, who_cause, who_said, with_content, with_grant}
use Rattle.node_file.specs.Opening.{FitsObject}
use Rattle.node_file.proofs.Changed.{has_number, object_of-changed}
use Rattle.node_file.proofs.PartsFit.{digits_are_bytes, find_push, one_passes, two_pass, unless_ok}

-- each object that is found is within the limits
abbrev pub ObjectsFit : List ObjectPlan → Type 0
ObjectsFit plans = (n : ℕ) (p : ObjectPlan) → object_of plans n ≡ Some p → FitsObject p

-- numbers of 32 bits
abbrev pub AreSmall : Rows → Type 0
AreSmall rows = All (λ (r : ℕ × List ℕ). r.0 < 2 ^ 32) rows

-- ---- an object more

pub empty_fits : (n : ℕ) → n < 2 ^ 32 → FitsObject (empty_object n)
empty_fits n small = record { number = small; content = (omega arith, All-nil IsByte); list = (omega arith, All-nil FitsGrant) }

pub more_fit : (above plans : List ObjectPlan) (n : ℕ) → ObjectsFit above → n < 2 ^ 32 → objects_and above n ≡ Ok plans → ObjectsFit plans
unfolding objects_and
more_fit above plans n fit small e =
    let u = unless_ok (first_of ((is_some (object_of above n), Twice) ∷ (nat_le 256 (length above), Limit) ∷ [])) (above ++ empty_object n ∷ []) plans e in
    subst ObjectsFit u.1 (λ q p is. elim (find_push (λ (p : ObjectPlan). eqb p.number q) above (empty_object n) p is) [
      | inl old ↦ fit q p old
      | inr new ↦ subst FitsObject new (empty_fits n small)
    ])

-- ---- an object changed

pub some_of : {A : Type 0} (cause : FileCause) (o : Option A) (x : A) → some_or cause o ≡ Ok x → o ≡ Some x
some_of cause None x e = absurd cc
some_of cause (Some y) x e = ap (λ z. Some z) (ok_is FileCause y x e)

mapped_from : {A B : Type 0} (f : A → B) (o : Option A) (y : B) → option_map f o ≡ Some y → (x : A) × (o ≡ Some x) × (f x ≡ y)
mapped_from f None y e = absurd (none-some y e)
mapped_from f (Some x) y e = (x, refl, same_Some (f x) y e)

module _ (above : List ObjectPlan) (n : ℕ) (f : ObjectPlan → ObjectPlan) (keeps : (p : ObjectPlan) → (f p).number ≡ p.number) (fit : ObjectsFit above) where
  -- all fit where the one that is changed does
  changed_fit : ((p : ObjectPlan) → object_of above n ≡ Some p → FitsObject (f p)) → ObjectsFit (changed_at n f above)
  changed_fit there q r is =
      let m = mapped_from (changed_if n f) (object_of above q) r (sym (object_of-changed n f keeps above q) ∙ is) in
      subst FitsObject m.2 (by m.0 m.1 (eqb m.0.number n) refl)
    where
      by : (p : ObjectPlan) → object_of above q ≡ Some p → (b : Bool) → eqb p.number n ≡ b → FitsObject (let z : ObjectPlan = cond b (f p) p in z)
      by p found true same =
          let at : q ≡ n = sym (has_number n f keeps above q p found) ∙ eqb-true p.number n same in
          there p (ap (object_of above) (sym at) ∙ found)
      by p found false other = fit q p found

pub contents_fit : (above plans : List ObjectPlan) (x : ℕ × List ℕ) → ObjectsFit above → All IsByte x.1 → contents_and above x ≡ Ok plans → ObjectsFit plans
unfolding contents_and
contents_fit above plans x fit bytes e =
    let p = bind_ok (some_or UnknownObject (object_of above x.0)) (λ p. unless (first_of ((ltb 0 (length p.content), Twice) ∷ (ltb 4096 (length x.1), Limit) ∷ [])) (changed_at x.0 (with_content x.1) above)) plans e in
    let u = unless_ok (first_of ((ltb 0 (length p.0.content), Twice) ∷ (ltb 4096 (length x.1), Limit) ∷ [])) (changed_at x.0 (with_content x.1) above) plans p.2 in
    let long = (two_pass (ltb 0 (length p.0.content)) (ltb 4096 (length x.1)) Twice Limit u.0).1 in
    let short : length x.1 ≤ 4096 = grind (arith, nat_tests, long) in
    subst ObjectsFit u.1 (changed_fit above x.0 (with_content x.1) (λ p. refl) fit (λ p found.
    let old = fit x.0 p found in
    record { number = old.number; content = (short, bytes); list = old.list }))

-- ---- an entry more

pub found_small : (rows : Rows) (word : List ℕ) (n : ℕ) → AreSmall rows → number_of rows word ≡ Some n → n < 2 ^ 32
found_small [] word n small e = absurd (none-some n e)
found_small (r ∷ rows) word n small e = by (bytes_eq r.1 word) e (λ later. found_small rows word n (All-tail (λ (r : ℕ × List ℕ). r.0 < 2 ^ 32) r rows small) later)
  where
    by : (b : Bool) → cond b (Some r.0) (number_of rows word) ≡ Some n → (number_of rows word ≡ Some n → n < 2 ^ 32) → n < 2 ^ 32
    by true e rest = subst (λ k. k < 2 ^ 32) (same_Some r.0 n e) (All-head (λ (r : ℕ × List ℕ). r.0 < 2 ^ 32) r rows small)
    by false e rest = rest e

module _ (labels : Labels) (names : AreSmall labels.names) (roles : AreSmall labels.roles) where
  named_small : (rows : Rows) → AreSmall rows → (sort word : List ℕ) (n : ℕ) → IsNamed rows sort n word → n < 2 ^ 32
  named_small rows small sort word n (inl is) = is.0
  named_small rows small sort word n (inr is) = found_small rows word n small is.1

  atom_small : (p : Principal) (word : List ℕ) → IsAtom labels p word → HasSpelling p
  atom_small (Key k) word is = is.0
  atom_small (Name n) word is = named_small labels.names names (codes "name:") word n is
  atom_small (And a b) word is = absurd is
  atom_small (Quoting a b) word is = absurd is
  atom_small (InRole a r) word is = absurd is
  atom_small (For a b) word is = absurd is

  pair_small : (kind : Kind) (a b : Principal) → HasSpelling a → HasSpelling b → HasSpelling (pair kind a b)
  pair_small kinds.And a b left right = (left, right)
  pair_small kinds.Quoting a b left right = (left, right)
  pair_small kinds.For a b left right = (left, right)

  written_small : (w : Written) → IsProper labels w → HasSpelling (meaning w)
  written_small (Atom p word) is = atom_small p word is
  written_small (Group w) is = written_small w is
  written_small (Pair kind a b) is = pair_small kind (meaning a) (meaning b) (written_small a is.1.0) (written_small b is.1.1)
  written_small (RoleOf a r word) is = (written_small a is.1, named_small labels.roles roles (codes "role:") word r is.2)

  pub who_fits : (text : List ℕ) (p : Principal) → who_said labels text ≡ Ok p → FitsLimits ENTRY_NODES p
  unfolding who_said
  who_fits text p e =
      let x = bind_ok (with_fault who_cause (principal_in labels text)) (λ p. cond (nat_le (node_count p) ENTRY_NODES) (Ok p) (Err causes.Principal)) p e in
      let small = chosen_ok (nat_le (node_count x.0) ENTRY_NODES) causes.Principal x.0 p x.2 in
      let is = read_is_meant labels text x.0 (with_fault_ok who_cause (principal_in labels text) x.0 x.1) in
      let few : node_count x.0 ≤ ENTRY_NODES = grind (arith, nat_tests, small.0) in
      subst (FitsLimits ENTRY_NODES) small.1 (record { numbers = subst HasSpelling is.text.means (written_small is.text.written is.text.proper); nodes_fit = few; depth_fits = is.depth_fits })

  pub grants_fit : (above plans : List ObjectPlan) (x : ℕ × ℕ × List ℕ) → ObjectsFit above → (1 ≤ x.1) × (x.1 ≤ 15) → grants_and labels above x ≡ Ok plans → ObjectsFit plans
  unfolding grants_and
  grants_fit above plans x fit rights e =
      let grant_of : Principal → Grant = λ who. record { rights = x.1; who = who } in
      let step : ObjectPlan → Principal → Result (List ObjectPlan) FileCause = λ p who. unless (first_of ((nat_le 8 (length p.list), Limit) ∷ [])) (changed_at x.0 (with_grant (grant_of who)) above) in
      let p = bind_ok (some_or UnknownObject (object_of above x.0)) (λ p. who_said labels x.2 >>= λ who. step p who) plans e in
      let who = bind_ok (who_said labels x.2) (step p.0) plans p.2 in
      let u = unless_ok (first_of ((nat_le 8 (length p.0.list), Limit) ∷ [])) (changed_at x.0 (with_grant (grant_of who.0)) above) plans who.2 in
      let room = one_passes (nat_le 8 (length p.0.list)) Limit u.0 in
      let few : length p.0.list < 8 = grind (arith, nat_tests, room) in
      let fits : FitsGrant (grant_of who.0) = record { rights = rights; who = who_fits x.2 who.0 who.1 } in
      subst ObjectsFit u.1 (changed_fit above x.0 (with_grant (grant_of who.0)) (λ p. refl) fit (λ q found.
      let same : p.0 ≡ q = same_Some p.0 q (sym (some_of UnknownObject (object_of above x.0) p.0 p.1) ∙ found) in
      let old = fit x.0 q found in
      let short : length q.list < 8 = subst (λ (r : ObjectPlan). length r.list < 8) same few in
      record { number = old.number; content = old.content; list = (omega (arith, short, length-append q.list (grant_of who.0 ∷ [])), All-push FitsGrant q.list (grant_of who.0) old.list.1 fits) }))

-- ---- what lines say

pub numbered_digits_fit : (rest : List ℕ) (x : ℕ × List ℕ) → numbered_digits rest ≡ Ok x → All IsByte x.1
unfolding numbered_digits
numbered_digits_fit rest x e =
    let w = bind_ok (numbered rest) (λ x. digits_of x.0 x.1) x e in
    let b = bind_ok (bytes_of_digits w.0.1) (λ bytes. Ok (w.0.0, bytes)) x w.2 in
    subst (λ (y : ℕ × List ℕ). All IsByte y.1) (ok_is FileCause (w.0.0, b.0) x b.2) (digits_are_bytes w.0.1 b.0 b.1)

pub granted_fit : (rest : List ℕ) (x : ℕ × ℕ × List ℕ) → granted rest ≡ Ok x → (1 ≤ x.1) × (x.1 ≤ 15)
unfolding granted
granted_fit rest x e =
    let w = bind_ok (two_and_rest rest) (λ w. number_up_to 4294967295 w.0 >>= λ n. some_or Rights (rights_of w.1) >>= λ rights. Ok (n, rights, w.2)) x e in
    let n = bind_ok (number_up_to 4294967295 w.0.0) (λ n. some_or Rights (rights_of w.0.1) >>= λ rights. Ok (n, rights, w.0.2)) x w.2 in
    let r = bind_ok (some_or Rights (rights_of w.0.1)) (λ rights. Ok (n.0, rights, w.0.2)) x n.2 in
    let is = rights_of-ok w.0.1 r.0 (some_of Rights (rights_of w.0.1) r.0 r.1) in
    subst (λ (y : ℕ × ℕ × List ℕ). (1 ≤ y.1) × (y.1 ≤ 15)) (ok_is FileCause (n.0, r.0, w.0.2) x r.2) (omega (arith, is.0, is.1), omega (arith, is.0, is.1))
