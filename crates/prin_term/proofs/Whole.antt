-- What a whole reader answers, from what it gives as a function.
use Rattle.std.proofs.Common.{◌≡◌, ◌≢◌, ◌⊎◌, ℕ, ◌+◌, ◌-◌, ◌<◌, ◌≤◌, List, [], ◌∷◌, ◌++◌, length, drop, Result, Ok, Err, refl, sym, ap, subst, ◌∙◌, append_assoc, append-nil, arith, inl, inr, max, length-append, length-drop}
use Rattle.std.specs.Prelude.{◌↔◌, IfOk, IfErr, MatchResult}
use Rattle.prin_term.specs.declared.fault.TermFault.{TermFault}
use Rattle.prin_term.specs.declared.fault.TermFault.TheVariants.{Tag, TooDeep, TooLarge, Short, NoMemory}
use Rattle.prin_term.specs.declared.term.Term.{Term}
use Rattle.prin_term.specs.Principal.{Principal, spelling, node_count, depth, HasSpelling}
use Rattle.prin_term.specs.View.{principal}
use Rattle.byte_fields.specs.Steps.{◌>>=◌, Gives, with_fault}
use Rattle.prin_term.specs.Reading.{Operand, front_term, term_at}
use Rattle.prin_term.specs.Refusal.{FitsLimits, IsTermAt, before, IsWrongAt, IsRefused}
use Rattle.prin_term.specs.declared.limits.TheConstants.{MAX_DEPTH}
use Rattle.byte_fields.proofs.Results.{bind_ok, bind_err, ok_is, with_fault_ok, gives_found, gives_only, gives_refused, gives_refused_only}
use Rattle.byte_fields.proofs.FieldLaws.{IsBytes, IsBytes-drop, IsBytes-front, ItemTakes, ItemAgain, took}
use Rattle.prin_term.proofs.Terms.{spelling_bytes, term_takes, term_again}
use Rattle.prin_term.proofs.Refusals.{refused, refused_again}

pub found_at : (nodes at : ℕ) (bytes : List ℕ) (x : Principal × ℕ) → at ≤ length bytes → IsBytes bytes → term_at nodes bytes at ≡ Ok x → IsTermAt nodes bytes at x.0 × (x.1 ≡ at + length (spelling x.0))
unfolding term_at
found_at nodes at bytes x le fits e =
    let a = bind_ok _ _ x e in
    let t = term_takes (length bytes) MAX_DEPTH nodes (drop at bytes) a.0 (IsBytes-drop at bytes fits) a.1 in
    let len : length bytes - at ≡ length (spelling a.0.0) + length a.0.2 = sym (length-drop at bytes) ∙ ap length t.taken.parts ∙ length-append (spelling a.0.0) a.0.2 in
    let made : Principal × ℕ = (a.0.0, length bytes - length a.0.2) in
    subst (λ (y : Principal × ℕ). IsTermAt nodes bytes at y.0 × (y.1 ≡ at + length (spelling y.0))) (ok_is TermFault made x a.2)
    (record { text = (a.0.2, t.taken.parts); limits = record { numbers = t.numbers; nodes_fit = omega (arith, t.nodes_are); depth_fits = t.depth_fits } }, omega (arith, len))

pub again_at : (nodes at : ℕ) (bytes rest : List ℕ) (t : Principal) → at ≤ length bytes → FitsLimits nodes t → drop at bytes ≡ spelling t ++ rest → term_at nodes bytes at ≡ Ok (t, at + length (spelling t))
unfolding term_at
again_at nodes at bytes rest t le fits e =
    let read = ap (front_term (length bytes) MAX_DEPTH nodes) e ∙ term_again (length bytes) MAX_DEPTH nodes (nodes - node_count t) t rest fits.numbers fits.depth_fits (omega (arith, fits.nodes_fit)) in
    let len : length bytes - at ≡ length (spelling t) + length rest = sym (length-drop at bytes) ∙ ap length e ∙ length-append (spelling t) rest in
    let place : length bytes - length rest ≡ at + length (spelling t) = omega (arith, len) in
    ap (λ r. r >>= λ y. Ok (y.0, length bytes - length y.2)) read ∙ ap (λ (k : ℕ). Ok (t, k)) place

-- a term as a field of a larger format, at a fault that sees this crate's
pub term_takes_at : {E : Type 0} (seen_as : TermFault → E) (nodes : ℕ) (bytes : List ℕ) → IsBytes bytes → ItemTakes (λ at. with_fault seen_as (term_at nodes bytes at)) spelling (FitsLimits nodes) bytes
term_takes_at seen_as nodes bytes fits at x le e =
    let f = found_at nodes at bytes x le fits (with_fault_ok seen_as (term_at nodes bytes at) x e) in
    (took bytes (spelling x.0) f.0.text.0 at x.1 f.0.text.1 f.1, f.0.limits)

pub term_again_at : {E : Type 0} (seen_as : TermFault → E) (nodes : ℕ) (bytes : List ℕ) → ItemAgain (λ at. with_fault seen_as (term_at nodes bytes at)) spelling (FitsLimits nodes) bytes
term_again_at seen_as nodes bytes at t rest le fits e = ap (with_fault seen_as) (again_at nodes at bytes rest t le fits e)

pub refused_at : (nodes at : ℕ) (bytes : List ℕ) (f : TermFault) → at ≤ length bytes → IsBytes bytes → term_at nodes bytes at ≡ Err f → IsRefused MAX_DEPTH nodes (drop at bytes) at f
unfolding term_at
refused_at nodes at bytes f le fits e = elim (bind_err _ _ f e) [
  | inl first ↦ refused (length bytes) MAX_DEPTH nodes at (drop at bytes) f (IsBytes-drop at bytes fits) (omega (arith, length-drop at bytes)) first
  | inr other ↦ absurd (cc (other.2))
]

pub refused_again_at : (nodes at : ℕ) (bytes : List ℕ) (f : TermFault) → at ≤ length bytes → IsRefused MAX_DEPTH nodes (drop at bytes) at f → term_at nodes bytes at ≡ Err f
unfolding term_at
refused_again_at nodes at bytes f le r =
    ap (λ x. x >>= λ y. Ok (y.0, length bytes - length y.2)) (refused_again (length bytes) MAX_DEPTH nodes at (drop at bytes) f (omega (arith, length-drop at bytes)) r)

-- what reading gives, from both sides
pub read_is : (nodes at end : ℕ) (bytes : List ℕ) (t : Principal) → at ≤ length bytes → IsBytes bytes → (term_at nodes bytes at ≡ Ok (t, end)) ↔ (IsTermAt nodes bytes at t × (end ≡ at + length (spelling t)))
read_is nodes at end bytes t le fits = (
  λ e. found_at nodes at bytes (t, end) le fits e,
  λ is. again_at nodes at bytes is.0.text.0 t le is.0.limits is.0.text.1 ∙ ap (λ (k : ℕ). Ok (t, k)) (sym is.1),
)

pub refused_is : (nodes at : ℕ) (bytes : List ℕ) (f : TermFault) → at ≤ length bytes → IsBytes bytes → (term_at nodes bytes at ≡ Err f) ↔ IsRefused MAX_DEPTH nodes (drop at bytes) at f
refused_is nodes at bytes f le fits = (λ e. refused_at nodes at bytes f le fits e, λ r. refused_again_at nodes at bytes f le r)

abbrev pub seen : Term × ℕ → Principal × ℕ
seen x = (principal x.0, x.1)

pub is_found : (nodes at : ℕ) (bytes : List ℕ) (r : Result (Term × ℕ) TermFault) → at ≤ length bytes → IsBytes bytes → Gives NoMemory seen r (term_at nodes bytes at)
    → IfOk r (λ x. IsTermAt nodes bytes at (principal x.0) × (x.1 ≡ at + length (spelling (principal x.0))))
is_found nodes at bytes r le fits given =
    gives_found (λ (y : Principal × ℕ). IsTermAt nodes bytes at y.0 × (y.1 ≡ at + length (spelling y.0))) NoMemory seen r (term_at nodes bytes at) given (λ y e. found_at nodes at bytes y le fits e)

pub is_only : (nodes at : ℕ) (bytes : List ℕ) (r : Result (Term × ℕ) TermFault) → at ≤ length bytes → Gives NoMemory seen r (term_at nodes bytes at)
    → (t : Principal) → IsTermAt nodes bytes at t → MatchResult r (λ x. principal x.0 ≡ t) (λ e. e ≡ NoMemory)
is_only nodes at bytes r le given t is =
    let end = at + length (spelling t) in
    gives_first r (t, end) (gives_only NoMemory seen r (term_at nodes bytes at) (t, end) given (again_at nodes at bytes is.text.0 t le is.limits is.text.1))
  where
    gives_first : (r : Result (Term × ℕ) TermFault) (y : Principal × ℕ) → MatchResult r (λ x. seen x ≡ y) (λ e. e ≡ NoMemory) → MatchResult r (λ x. principal x.0 ≡ y.0) (λ e. e ≡ NoMemory)
    gives_first (Ok x) y h = ap (λ (p : Principal × ℕ). p.0) h
    gives_first (Err e) y h = h

pub is_refused : (nodes at : ℕ) (bytes : List ℕ) (r : Result (Term × ℕ) TermFault) → at ≤ length bytes → IsBytes bytes → Gives NoMemory seen r (term_at nodes bytes at)
    → IfErr r (λ e. e ≢ NoMemory → IsRefused MAX_DEPTH nodes (drop at bytes) at e)
is_refused nodes at bytes r le fits given =
    gives_refused (λ (f : TermFault). IsRefused MAX_DEPTH nodes (drop at bytes) at f) NoMemory seen r (term_at nodes bytes at) given (λ f e. refused_at nodes at bytes f le fits e)

pub is_refused_only : (nodes at : ℕ) (bytes : List ℕ) (r : Result (Term × ℕ) TermFault) → at ≤ length bytes → Gives NoMemory seen r (term_at nodes bytes at)
    → (f : TermFault) → IsRefused MAX_DEPTH nodes (drop at bytes) at f → MatchResult r (λ _. ⊥) (λ e. (e ≡ f) ⊎ (e ≡ NoMemory))
is_refused_only nodes at bytes r le given f is = gives_refused_only NoMemory seen r (term_at nodes bytes at) f given (refused_again_at nodes at bytes f le is)

abbrev read : Principal → ℕ → List ℕ → Result Operand TermFault
read t left rest = Ok (t, left, rest)

operand_is : (a b : Principal) (m n : ℕ) (x y : List ℕ) → read a m x ≡ read b n y → (a ≡ b) × (x ≡ y)
operand_is a b m n x y e =
    let same : (a, m, x) ≡ (b, n, y) = ok_is TermFault (a, m, x) (b, n, y) e in
    (ap (λ (o : Operand). o.0) same, ap (λ (o : Operand). o.2) same)

-- no spelling begins another
pub spelled_once : (a b : Principal) (x y : List ℕ) → HasSpelling a → HasSpelling b → spelling a ++ x ≡ spelling b ++ y → (a ≡ b) × (x ≡ y)
spelled_once a b x y na nb e =
    let levels = max (depth a) (depth b) in
    let nodes = node_count a + node_count b in
    let first = term_again 0 levels nodes (nodes - node_count a) a x na (omega arith) (omega arith) in
    let second = term_again 0 levels nodes (nodes - node_count b) b y nb (omega arith) (omega arith) in
    operand_is a b _ _ x y (sym first ∙ ap (front_term 0 levels nodes) e ∙ second)

-- ---- prefixes

-- what is wrong at a tag stays wrong where more bytes follow
abbrev IsAtTag : TermFault → Type 0
IsAtTag (Tag o) = Unit {0}
IsAtTag (TooDeep o) = Unit {0}
IsAtTag (TooLarge o) = Unit {0}
IsAtTag (Short o) = ⊥
IsAtTag NoMemory = ⊥

wrong_more : (levels nodes : ℕ) (rest more : List ℕ) (offset : ℕ) (f : TermFault) → IsAtTag f → IsWrongAt levels nodes rest offset f → IsWrongAt levels nodes (rest ++ more) offset f
wrong_more levels nodes [] more offset (Tag o) is w = absurd w.0
wrong_more levels nodes (b ∷ rest) more offset (Tag o) is w = w
wrong_more levels nodes [] more offset (TooDeep o) is w = absurd w.0
wrong_more levels nodes (b ∷ rest) more offset (TooDeep o) is w = w
wrong_more levels nodes [] more offset (TooLarge o) is w = absurd w.0
wrong_more levels nodes (b ∷ rest) more offset (TooLarge o) is w = w
wrong_more levels nodes rest more offset (Short o) is w = absurd is
wrong_more levels nodes rest more offset NoMemory is w = absurd is

refused_more : (levels nodes : ℕ) (bytes more : List ℕ) (at : ℕ) (f : TermFault) → IsAtTag f → IsRefused levels nodes bytes at f → IsRefused levels nodes (bytes ++ more) at f
refused_more levels nodes bytes more at f is r = record {
  beginning = r.beginning;
  rest = r.rest ++ more;
  text = ap (λ (l : List ℕ). l ++ more) r.text ∙ append_assoc (before r.beginning) r.rest more;
  numbers = r.numbers;
  height_fits = r.height_fits;
  count_fits = r.count_fits;
  wrong = wrong_more _ _ r.rest more _ f is r.wrong;
}

-- a term's spelling is not refused at a tag
never_at_tag : (nodes at : ℕ) (t : Principal) (front more : List ℕ) (f : TermFault) → FitsLimits nodes t → spelling t ≡ front ++ more → IsAtTag f → IsRefused MAX_DEPTH nodes front at f → ⊥
never_at_tag nodes at t front more f fits e is r =
    let end = at + length (spelling t) in
    let whole = refused_again end MAX_DEPTH nodes at (spelling t) f refl (subst (λ (l : List ℕ). IsRefused MAX_DEPTH nodes l at f) (sym e) (refused_more MAX_DEPTH nodes front more at f is r)) in
    let read = term_again end MAX_DEPTH nodes (nodes - node_count t) t [] fits.numbers fits.depth_fits (omega (arith, fits.nodes_fit)) in
    let same : front_term end MAX_DEPTH nodes (spelling t ++ []) ≡ front_term end MAX_DEPTH nodes (spelling t) = ap (front_term end MAX_DEPTH nodes) (append-nil (spelling t)) in
    cc (whole, read, same)

none_read : (nodes end : ℕ) (t : Principal) (front more : List ℕ) (x : Operand) → FitsLimits nodes t → IsBytes front → spelling t ≡ front ++ more → 0 < length more → front_term end MAX_DEPTH nodes front ≡ Ok x → ⊥
none_read nodes end t front more x fits bytes e some read =
    let taken = term_takes end MAX_DEPTH nodes front x bytes read in
    let text : spelling t ++ [] ≡ spelling x.0 ++ (x.2 ++ more) = append-nil (spelling t) ∙ e ∙ ap (λ (l : List ℕ). l ++ more) taken.taken.parts ∙ append_assoc (spelling x.0) x.2 more in
    let same = spelled_once t x.0 [] (x.2 ++ more) fits.numbers taken.numbers text in
    let len : 0 ≡ length x.2 + length more = ap length same.1 ∙ length-append x.2 more in
    omega (arith, len, some)

prefix_by : (nodes at : ℕ) (t : Principal) (front more : List ℕ) (r : Result Operand TermFault) → FitsLimits nodes t → IsBytes front → spelling t ≡ front ++ more
    → 0 < length more → front_term (at + length front) MAX_DEPTH nodes front ≡ r → IsRefused MAX_DEPTH nodes front at (Short (at + length front))
prefix_by nodes at t front more (Ok x) fits bytes e some read = absurd (none_read nodes (at + length front) t front more x fits bytes e some read)
prefix_by nodes at t front more (Err (Short o)) fits bytes e some read =
    let r = refused (at + length front) MAX_DEPTH nodes at front (Short o) bytes refl read in
    let len : length front ≡ length (before r.beginning) + length r.rest = ap length r.text ∙ length-append (before r.beginning) r.rest in
    let place : o ≡ at + length front = omega (arith, r.wrong.1, len) in
    subst (λ (k : ℕ). IsRefused MAX_DEPTH nodes front at (Short k)) place r
prefix_by nodes at t front more (Err (Tag o)) fits bytes e some read = absurd (never_at_tag nodes at t front more (Tag o) fits e tt (refused (at + length front) MAX_DEPTH nodes at front (Tag o) bytes refl read))
prefix_by nodes at t front more (Err (TooDeep o)) fits bytes e some read = absurd (never_at_tag nodes at t front more (TooDeep o) fits e tt (refused (at + length front) MAX_DEPTH nodes at front (TooDeep o) bytes refl read))
prefix_by nodes at t front more (Err (TooLarge o)) fits bytes e some read = absurd (never_at_tag nodes at t front more (TooLarge o) fits e tt (refused (at + length front) MAX_DEPTH nodes at front (TooLarge o) bytes refl read))
prefix_by nodes at t front more (Err NoMemory) fits bytes e some read = absurd (refused (at + length front) MAX_DEPTH nodes at front NoMemory bytes refl read).wrong

-- a proper prefix of a spelling is refused at its end
pub prefix_refused : (nodes at : ℕ) (t : Principal) (front more : List ℕ) → FitsLimits nodes t → spelling t ≡ front ++ more → 0 < length more → IsRefused MAX_DEPTH nodes front at (Short (at + length front))
prefix_refused nodes at t front more fits e some = prefix_by nodes at t front more (front_term (at + length front) MAX_DEPTH nodes front) fits (IsBytes-front front more (subst (λ (l : List ℕ). IsBytes l) e (spelling_bytes t))) e some refl

-- a spelling is read up to its end, whatever follows
pub longer_read : (nodes : ℕ) (t : Principal) (rest : List ℕ) → FitsLimits nodes t → IsTermAt nodes (spelling t ++ rest) 0 t
longer_read nodes t rest fits = record { text = (rest, refl); limits = fits }
