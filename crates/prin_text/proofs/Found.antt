-- What is read token by token was written.
use Rattle.std.proofs.Common.{◌≡◌, ℕ, List, [], ◌∷◌, ◌++◌, Result, Ok, refl, sym, ◌∙◌, ap, subst, inl, inr, append_assoc}
use Rattle.std.specs.Prelude.{codes}
use Rattle.std.proofs.lemmas.List.{append-nil}
use Rattle.prin_term.specs.Kind.{Kind, pair}
use Rattle.prin_term.specs.Kind as kinds
use Rattle.byte_fields.proofs.Results.{bind_ok, ok_is, with_fault_ok}
use Rattle.prin_text.specs.declared.fault.TextFault.{TextFault}
use Rattle.prin_text.specs.declared.fault.TextFault.TheVariants.{Bad}
use Rattle.prin_text.specs.Labels.{Labels}
use Rattle.prin_text.specs.Meaning.{Written, Atom, Group, Pair, RoleOf, meaning, operator, tokens_of, IsOperand, IsProper}
use Rattle.prin_text.specs.Pieces.{Piece, Built, joined, in_role}
use Rattle.prin_text.specs.Reading.{Pending, First, Second, Stage, Operand, One, Role, Whole, State, filled, ended, finished, at_operand, at_one, at_role, at_whole, step, piece_at}
use Rattle.prin_text.specs.Tokens.{Placed}
use Rattle.prin_text.specs.Words.{operand_of, role_of}
use Rattle.prin_text.proofs.Again.{words, atom_piece}
use Rattle.prin_text.proofs.Pieced.{piece_of, joined-piece_of, in_role-piece_of}
use Rattle.prin_text.proofs.Texts.{texts_tell}
use Rattle.prin_text.proofs.Wording.{operand_of-ok, role_of-ok}

-- something was written properly, is the piece, and has these tokens
pub record IsWritten (labels : Labels) (pc : Piece) (front : List (List ℕ)) : Type 0 where
  pub written : Written
  pub proper : IsProper labels written
  pub piece : pc ≡ piece_of (meaning written)
  pub tokens : front ≡ tokens_of written

-- the same of an operand
pub record IsOperandWritten (labels : Labels) (pc : Piece) (front : List (List ℕ)) : Type 0 where
  pub is : IsWritten labels pc front
  pub operand : IsOperand is.written

-- these tokens stand before an operand that is due
abbrev pub IsDue : Labels → Pending → List (List ℕ) → Type 0
IsDue labels First front = front ≡ []
IsDue labels (Second pc kind) front = (left : List (List ℕ)) × IsOperandWritten labels pc left × (front ≡ left ++ operator kind ∷ [])

-- these tokens are what was read of a principal
abbrev pub IsPlace : Labels → Stage → List (List ℕ) → Type 0
IsPlace labels (Operand due) front = IsDue labels due front
IsPlace labels (One pc) front = IsOperandWritten labels pc front
IsPlace labels (Role pc) front = (left : List (List ℕ)) × IsOperandWritten labels pc left × (front ≡ left ++ codes "as" ∷ [])
IsPlace labels (Whole pc) front = IsWritten labels pc front

-- these tokens are those of the principals that are open
abbrev pub IsOpen : Labels → List Pending → List (List ℕ) → Type 0
IsOpen labels [] front = front ≡ []
IsOpen labels (due ∷ stack) front =
    (outer : List (List ℕ)) × (inner : List (List ℕ)) × IsOpen labels stack outer × IsDue labels due inner × (front ≡ outer ++ (inner ++ codes "(" ∷ []))

-- these tokens were read up to a state
pub record WasRead (labels : Labels) (stack : List Pending) (place : Stage) (front : List (List ℕ)) : Type 0 where
  pub outer : List (List ℕ)
  pub inner : List (List ℕ)
  pub is_open : IsOpen labels stack outer
  pub is_place : IsPlace labels place inner
  pub whole : front ≡ outer ++ inner

module _ (labels : Labels) where
  -- an operand fills what was due
  pub fill : (due : Pending) (pc : Piece) (inner more : List (List ℕ)) → IsDue labels due inner → IsOperandWritten labels pc more → IsPlace labels (filled due pc) (inner ++ more)
  fill First pc inner more before operand = subst (λ (l : List (List ℕ)). IsOperandWritten labels pc (l ++ more)) (sym before) operand
  fill (Second left kind) pc inner more before operand =
      let a = before.1 in
      record {
        written = Pair kind a.is.written operand.is.written;
        proper = ((a.operand, operand.operand), (a.is.proper, operand.is.proper));
        piece = (λ i. joined kind (a.is.piece i) (operand.is.piece i)) ∙ joined-piece_of kind (meaning a.is.written) (meaning operand.is.written);
        tokens = ap (λ l. l ++ more) before.2 ∙ append_assoc before.0 (operator kind ∷ []) more ∙ (λ i. a.is.tokens i ++ operator kind ∷ operand.is.tokens i);
      }

  -- what stands in parentheses is an operand
  grouped : (pc : Piece) (inner : List (List ℕ)) → IsWritten labels pc inner → IsOperandWritten labels pc (codes "(" ∷ (inner ++ codes ")" ∷ []))
  grouped pc inner is = record {
    is = record { written = Group is.written; proper = is.proper; piece = is.piece; tokens = ap (λ l. codes "(" ∷ (l ++ codes ")" ∷ [])) is.tokens };
    operand = tt;
  }

  -- the state that a step gave, as its parts
  state_is : (stack : List Pending) (place : Stage) (s : State) (front : List (List ℕ)) → WasRead labels stack place front → (let made : Result State TextFault = Ok (stack, place) in made ≡ Ok s) → WasRead labels s.0 s.1 front
  state_is stack place s front read e = subst (λ (x : State). WasRead labels x.0 x.1 front) (ok_is TextFault (stack, place) s e) read

  ends : (at : ℕ) (stack : List Pending) (pc : Piece) (s : State) (outer inner : List (List ℕ)) → IsOpen labels stack outer → IsWritten labels pc inner → ended at stack pc ≡ Ok s → WasRead labels s.0 s.1 ((outer ++ inner) ++ codes ")" ∷ [])
  ends at [] pc s outer inner is_open is e = absurd cc
  ends at (due ∷ stack) pc s outer inner is_open is e =
      let filling = fill due pc is_open.1 (codes "(" ∷ (inner ++ codes ")" ∷ [])) is_open.3 (grouped pc inner is) in
      state_is stack (filled due pc) s _ (record {
        outer = is_open.0;
        inner = is_open.1 ++ codes "(" ∷ (inner ++ codes ")" ∷ []);
        is_open = is_open.2;
        is_place = filling;
        whole = ap (λ l. (l ++ inner) ++ codes ")" ∷ []) is_open.4 ∙ simp append_assoc;
      }) e

  -- the token follows what was read of the present principal
  follows : (stack : List Pending) (place : Stage) (outer inner more : List (List ℕ)) (token : List ℕ) → IsOpen labels stack outer → IsPlace labels place more → inner ++ token ∷ [] ≡ more → WasRead labels stack place ((outer ++ inner) ++ token ∷ [])
  follows stack place outer inner more token is_open is_place same = record {
    outer = outer;
    inner = more;
    is_open = is_open;
    is_place = is_place;
    whole = append_assoc outer inner (token ∷ []) ∙ ap (λ l. outer ++ l) same;
  }

  operand_step : (at : ℕ) (token : List ℕ) (stack : List Pending) (due : Pending) (s : State) (outer inner : List (List ℕ)) → IsOpen labels stack outer → IsDue labels due inner → at_operand labels at token stack due ≡ Ok s → WasRead labels s.0 s.1 ((outer ++ inner) ++ token ∷ [])
  unfolding at_operand
  operand_step at token stack due s outer inner is_open is_due e = elim (texts_tell token (codes "(")) [
    | inl same ↦
        let opened = rw same.0 at e in
        state_is (due ∷ stack) (Operand First) s _ (record {
          outer = outer ++ (inner ++ token ∷ []);
          inner = [];
          is_open = (outer, inner, is_open, is_due, ap (λ t. outer ++ (inner ++ t ∷ [])) same.1);
          is_place = refl;
          whole = append_assoc outer inner (token ∷ []) ∙ sym (append-nil (outer ++ (inner ++ token ∷ [])));
        }) opened
    | inr other ↦
        let went = rw other.0 at e in
        let read = bind_ok _ _ s went in
        let word = with_fault_ok (Bad at) (operand_of labels.names token) read.0 read.1 in
        let atom = operand_of-ok labels read.0 token word in
        let operand : IsOperandWritten labels (Built read.0 1) (token ∷ []) = record {
          is = record { written = Atom read.0 token; proper = atom; piece = atom_piece labels read.0 token atom; tokens = refl };
          operand = tt;
        } in
        state_is stack (filled due (Built read.0 1)) s _ (follows stack (filled due (Built read.0 1)) outer inner (inner ++ token ∷ []) token is_open (fill due (Built read.0 1) inner (token ∷ []) is_due operand) refl) read.2
  ]

  -- an operator follows an operand
  operator_follows : (kind : Kind) (stack : List Pending) (pc : Piece) (s : State)
      (outer inner : List (List ℕ)) (token : List ℕ) → IsOpen labels stack outer →
      IsOperandWritten labels pc inner → token ≡ operator kind →
      (let made : Result State TextFault = Ok (stack, Operand (Second pc kind)) in made ≡ Ok s) →
      WasRead labels s.0 s.1 ((outer ++ inner) ++ token ∷ [])
  operator_follows kind stack pc s outer inner token is_open operand same e =
      state_is stack (Operand (Second pc kind)) s _ (follows stack (Operand (Second pc kind)) outer inner (inner ++ token ∷ []) token is_open (inner, operand, ap (λ t. inner ++ t ∷ []) same) refl) e

  one_step : (at : ℕ) (token : List ℕ) (stack : List Pending) (pc : Piece) (s : State) (outer inner : List (List ℕ)) → IsOpen labels stack outer → IsOperandWritten labels pc inner → at_one at token stack pc ≡ Ok s → WasRead labels s.0 s.1 ((outer ++ inner) ++ token ∷ [])
  unfolding at_one
  one_step at token stack pc s outer inner is_open operand e = elim (texts_tell token (codes ")")) [
    | inl same ↦ subst (λ (t : List ℕ). WasRead labels s.0 s.1 ((outer ++ inner) ++ t ∷ [])) (sym same.1) (ends at stack pc s outer inner is_open operand.is (rw same.0 at e))
    | inr no1 ↦ let e1 = rw no1.0 at e in elim (texts_tell token (codes "and")) [
      | inl same ↦ operator_follows kinds.And stack pc s outer inner token is_open operand same.1 (rw same.0 at e1)
      | inr no2 ↦ let e2 = rw no2.0 at e1 in elim (texts_tell token (codes "|")) [
        | inl same ↦ operator_follows kinds.Quoting stack pc s outer inner token is_open operand same.1 (rw same.0 at e2)
        | inr no3 ↦ let e3 = rw no3.0 at e2 in elim (texts_tell token (codes "for")) [
          | inl same ↦ operator_follows kinds.For stack pc s outer inner token is_open operand same.1 (rw same.0 at e3)
          | inr no4 ↦ let e4 = rw no4.0 at e3 in elim (texts_tell token (codes "as")) [
            | inl same ↦ state_is stack (Role pc) s _ (follows stack (Role pc) outer inner (inner ++ token ∷ []) token is_open (inner, operand, ap (λ t. inner ++ t ∷ []) same.1) refl) (rw same.0 at e4)
            | inr no5 ↦ let e5 = rw no5.0 at e4 in absurd cc
          ]
        ]
      ]
    ]
  ]

  role_step : (at : ℕ) (token : List ℕ) (stack : List Pending) (pc : Piece) (s : State) (outer inner : List (List ℕ)) → IsOpen labels stack outer → IsPlace labels (Role pc) inner → at_role labels at token stack pc ≡ Ok s → WasRead labels s.0 s.1 ((outer ++ inner) ++ token ∷ [])
  unfolding at_role
  role_step at token stack pc s outer inner is_open place e =
      let read = bind_ok _ _ s e in
      let word = with_fault_ok (Bad at) (role_of labels.roles token) read.0 read.1 in
      let a = place.1 in
      let whole : IsWritten labels (in_role pc read.0) (inner ++ token ∷ []) = record {
        written = RoleOf a.is.written read.0 token;
        proper = (a.operand, a.is.proper, role_of-ok labels.roles read.0 token word);
        piece = ap (λ x. in_role x read.0) a.is.piece ∙ in_role-piece_of (meaning a.is.written) read.0;
        tokens = ap (λ l. l ++ token ∷ []) place.2 ∙ append_assoc place.0 (codes "as" ∷ []) (token ∷ []) ∙ ap (λ l. l ++ codes "as" ∷ token ∷ []) a.is.tokens;
      } in
      state_is stack (Whole (in_role pc read.0)) s _ (follows stack (Whole (in_role pc read.0)) outer inner (inner ++ token ∷ []) token is_open whole refl) read.2

  whole_step : (at : ℕ) (token : List ℕ) (stack : List Pending) (pc : Piece) (s : State) (outer inner : List (List ℕ)) → IsOpen labels stack outer → IsWritten labels pc inner → at_whole at token stack pc ≡ Ok s → WasRead labels s.0 s.1 ((outer ++ inner) ++ token ∷ [])
  unfolding at_whole
  whole_step at token stack pc s outer inner is_open is e = elim (texts_tell token (codes ")")) [
    | inl same ↦ subst (λ (t : List ℕ). WasRead labels s.0 s.1 ((outer ++ inner) ++ t ∷ [])) (sym same.1) (ends at stack pc s outer inner is_open is (rw same.0 at e))
    | inr other ↦ let f = rw other.0 at e in absurd cc
  ]

  -- a step reads its token
  any_step : (at : ℕ) (token : List ℕ) (stack : List Pending) (place : Stage) (s : State) (outer inner : List (List ℕ)) → IsOpen labels stack outer → IsPlace labels place inner → step labels at token stack place ≡ Ok s → WasRead labels s.0 s.1 ((outer ++ inner) ++ token ∷ [])
  any_step at token stack (Operand due) s outer inner is_open is_place e = operand_step at token stack due s outer inner is_open is_place e
  any_step at token stack (One pc) s outer inner is_open is_place e = one_step at token stack pc s outer inner is_open is_place e
  any_step at token stack (Role pc) s outer inner is_open is_place e = role_step at token stack pc s outer inner is_open is_place e
  any_step at token stack (Whole pc) s outer inner is_open is_place e = whole_step at token stack pc s outer inner is_open is_place e

  pub steps : (at : ℕ) (token : List ℕ) (stack : List Pending) (place : Stage) (s : State) (front : List (List ℕ)) → WasRead labels stack place front → step labels at token stack place ≡ Ok s → WasRead labels s.0 s.1 (front ++ token ∷ [])
  steps at token stack place s front read e =
      subst (λ (l : List (List ℕ)). WasRead labels s.0 s.1 (l ++ token ∷ [])) (sym read.whole) (any_step at token stack place s read.outer read.inner read.is_open read.is_place e)

  -- where a principal may end, it was written
  pub finishes : (at : ℕ) (stack : List Pending) (place : Stage) (pc : Piece) (front : List (List ℕ)) → WasRead labels stack place front → finished at stack place ≡ Ok pc → IsWritten labels pc front
  finishes at [] (One p) pc front read e = subst (λ (q : Piece). IsWritten labels q front) (ok_is TextFault p pc e) (subst (λ (l : List (List ℕ)). IsWritten labels p l) (sym (read.whole ∙ ap (λ l. l ++ read.inner) read.is_open)) read.is_place.is)
  finishes at [] (Whole p) pc front read e = subst (λ (q : Piece). IsWritten labels q front) (ok_is TextFault p pc e) (subst (λ (l : List (List ℕ)). IsWritten labels p l) (sym (read.whole ∙ ap (λ l. l ++ read.inner) read.is_open)) read.is_place)
  finishes at [] (Operand due) pc front read e = absurd cc
  finishes at [] (Role p) pc front read e = absurd cc
  finishes at (due ∷ stack) (One p) pc front read e = absurd cc
  finishes at (due ∷ stack) (Whole p) pc front read e = absurd cc
  finishes at (due ∷ stack) (Operand d) pc front read e = absurd cc
  finishes at (due ∷ stack) (Role p) pc front read e = absurd cc

-- the tokens up to where reading stopped are those of something written
pub record ReadOf (labels : Labels) (front : List (List ℕ)) (tokens : List Placed) (pc : Piece) (rest : List Placed) : Type 0 where
  pub used : List Placed
  pub split : tokens ≡ used ++ rest
  pub is : IsWritten labels pc (front ++ words used)

module _ (labels : Labels) (end : ℕ) where
  -- more tokens were read before these
  earlier : (at : ℕ) (token : List ℕ) (front : List (List ℕ)) (tokens : List Placed) (pc : Piece) (rest : List Placed) → ReadOf labels (front ++ token ∷ []) tokens pc rest → ReadOf labels front ((at, token) ∷ tokens) pc rest
  earlier at token front tokens pc rest read = record {
    used = (at, token) ∷ read.used;
    split = ap (λ l. (at, token) ∷ l) read.split;
    is = subst (λ (l : List (List ℕ)). IsWritten labels pc l) (append_assoc front (token ∷ []) (words read.used)) read.is;
  }

  here : (front : List (List ℕ)) (tokens : List Placed) (p pc : Piece) (rest : List Placed) → IsWritten labels p front → (let made : Result (Piece × List Placed) TextFault = Ok (p, tokens) in made ≡ Ok (pc, rest)) → ReadOf labels front tokens pc rest
  here front tokens p pc rest is e =
      let same = ok_is TextFault (p, tokens) (pc, rest) e in
      record {
        used = [];
        split = ap (λ x. x.1) same;
        is = subst (λ (l : List (List ℕ)). IsWritten labels pc l) (sym (append-nil front)) (subst (λ (q : Piece). IsWritten labels q front) (ap (λ x. x.0) same) is);
      }

  -- what is read was written
  pub found : (tokens : List Placed) (stack : List Pending) (place : Stage) (front : List (List ℕ)) (pc : Piece) (rest : List Placed) → WasRead labels stack place front → piece_at labels end tokens stack place ≡ Ok (pc, rest) → ReadOf labels front tokens pc rest
  unfolding piece_at
  found [] stack place front pc rest read e =
      let p = bind_ok _ _ (pc, rest) e in
      here front [] p.0 pc rest (finishes labels end stack place p.0 front read p.1) p.2
  found ((at, token) ∷ tokens) stack place front pc rest read e = elim (texts_tell token (codes ";")) [
    | inl same ↦
        let p = bind_ok _ _ (pc, rest) (rw same.0 at e) in
        here front ((at, token) ∷ tokens) p.0 pc rest (finishes labels at stack place p.0 front read p.1) p.2
    | inr other ↦
        let s = bind_ok _ _ (pc, rest) (rw other.0 at e) in
        earlier at token front tokens pc rest (found tokens s.0.0 s.0.1 (front ++ token ∷ []) pc rest (steps labels at token stack place s.0 front read s.1) s.2)
  ]
