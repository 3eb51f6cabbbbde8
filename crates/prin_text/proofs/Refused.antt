-- Where reading meets a fault, the text is refused with it, and the other way round.
use Rattle.std.proofs.Common.{◌≡◌, ◌⊎◌, ℕ, Bool, true, false, cond, List, [], ◌∷◌, ◌++◌, Result, Ok, Err, refl, sym, ◌∙◌, ap, subst, inl, inr, append_assoc, arith}
use Rattle.std.specs.Prelude.{bytes_eq, codes}
use Rattle.std.specs.Fmt.{decimal}
use Rattle.std.proofs.lemmas.List.{append-nil, map-append}
use Rattle.prin_term.specs.Principal.{Key}
use Rattle.prin_term.specs.Kind.{Kind}
use Rattle.prin_term.specs.Kind as kinds
use Rattle.byte_fields.specs.Steps.{◌>>=◌}
use Rattle.prin_text.specs.declared.fault.TextCause.{TextCause}
use Rattle.prin_text.specs.declared.fault.TextCause.TheVariants.{Syntax, Number, UnknownName}
use Rattle.prin_text.specs.declared.fault.TextFault.{TextFault}
use Rattle.prin_text.specs.declared.fault.TextFault.TheVariants.{Bad}
use Rattle.prin_text.specs.Labels.{Labels, is_label}
use Rattle.prin_text.specs.Meaning.{Written, Atom, Group, Pair, RoleOf, operator, tokens_of, IsOperand, IsProper}
use Rattle.prin_text.specs.Pieces.{Piece, Built, in_role}
use Rattle.prin_text.specs.Reading.{Pending, First, Second, Stage, Operand, One, Role, Whole, State, alone, filled, finished, at_operand, at_one, at_whole, ended, step, piece_at}
use Rattle.prin_text.specs.Refusing.{CanBegin, CanStand, IsComplete, IsOperandWord, IsRoleWord, IsShaped, IsWrongToken, IsWrong}
use Rattle.prin_text.specs.Tokens.{Placed, first_place}
use Rattle.prin_text.specs.Words.{operand_of, role_of}
use Rattle.prin_text.proofs.Again.{words, standing, goes_on, opens, fills}
use Rattle.prin_text.proofs.Found.{IsDue, IsPlace, IsOpen, WasRead, steps}
use Rattle.prin_text.proofs.Shaped.{WordAnswer, WordRead, WordNumber, WordUnknown, WordNone, operand_answer, role_answer, shaped}
use Rattle.prin_text.proofs.Texts.{texts_tell}
use Rattle.prin_text.proofs.Whole.{piece_at-end, piece_in-written}
use Rattle.prin_text.proofs.Goes.{Goes, Passed, Failed, goes, refused_word, role_refused, role_taken}

-- something of a sort can begin with these tokens
abbrev pub Begins : (Written → Type 0) → List (List ℕ) → Type 0
Begins P front = (w : Written) × (more : List (List ℕ)) × P w × (tokens_of w ≡ front ++ more)

-- a sort of what is written that keeps groups, and compounds whose first operand is proper
pub record IsSort (labels : Labels) (P : Written → Type 0) : Type 0 where
  pub group : (w : Written) → P w → P (Group w)
  pub pair : (kind : Kind) (a b : Written) → IsOperand a → IsProper labels a → IsOperand b → P b → P (Pair kind a b)

module _ (labels : Labels) where
  proper_sort : IsSort labels (IsProper labels)
  proper_sort = record { group = λ w is. is; pair = λ kind a b is_a a_proper is_b b_is. ((is_a, is_b), (a_proper, b_is)) }

  shaped_sort : IsSort labels IsShaped
  shaped_sort = record { group = λ w is. is; pair = λ kind a b is_a a_proper is_b b_is. ((is_a, is_b), (shaped labels a a_proper, b_is)) }

module _ (labels : Labels) (P : Written → Type 0) (sort : IsSort labels P) where
  -- an operand that is due can be there
  due_begins : (due : Pending) (inner : List (List ℕ)) (x : Written) (front more : List (List ℕ)) → IsDue labels due inner → IsOperand x → P x → tokens_of x ≡ front ++ more → Begins P (inner ++ front)
  due_begins First inner x front more before operand is same = (x, more, is, same ∙ ap (λ l. (l ++ front) ++ more) (sym before))
  due_begins (Second pc kind) inner x front more before operand is same =
      let a = before.1 in (
        Pair kind a.is.written x,
        more,
        sort.pair kind a.is.written x a.operand a.is.proper operand is,
        (λ i. sym a.is.tokens i ++ operator kind ∷ same i)
            ∙ sym (append_assoc before.0 (operator kind ∷ []) (front ++ more)) ∙ sym (append_assoc (before.0 ++ operator kind ∷ []) front more)
            ∙ ap (λ l. (l ++ front) ++ more) (sym before.2),
      )

  -- what is open can be ended
  open_begins : (stack : List Pending) (outer inner : List (List ℕ)) → IsOpen labels stack outer → Begins P inner → Begins P (outer ++ inner)
  open_begins [] outer inner is_open begins = subst (λ (l : List (List ℕ)). Begins P (l ++ inner)) (sym is_open) begins
  open_begins (due ∷ stack) outer inner is_open (w, more, is, same) =
      let grouped : tokens_of (Group w) ≡ (codes "(" ∷ inner) ++ (more ++ codes ")" ∷ []) = ap (λ l. codes "(" ∷ (l ++ codes ")" ∷ [])) same ∙ ap (λ l. codes "(" ∷ l) (append_assoc inner more (codes ")" ∷ [])) in
      let here = due_begins due is_open.1 (Group w) (codes "(" ∷ inner) (more ++ codes ")" ∷ []) is_open.3 tt (sort.group w is) grouped in
      let whole = open_begins stack is_open.0 (is_open.1 ++ codes "(" ∷ inner) is_open.2 here in
      subst (λ (l : List (List ℕ)). Begins P l) (sym (ap (λ l. l ++ inner) is_open.4 ∙ append_assoc is_open.0 (is_open.1 ++ codes "(" ∷ []) inner ∙ ap (λ l. is_open.0 ++ l) (append_assoc is_open.1 (codes "(" ∷ []) inner))) whole

module _ (labels : Labels) where
  spare_operand : IsProper labels (Atom (Key 0) (codes "key:" ++ decimal 0))
  spare_operand = (omega arith, refl)

  -- what was read of the present principal can go on
  place_begins : (place : Stage) (inner : List (List ℕ)) → IsPlace labels place inner → CanBegin labels inner
  place_begins (Operand due) inner is =
      subst (λ (l : List (List ℕ)). CanBegin labels l) (append-nil inner)
      (due_begins labels (IsProper labels) (proper_sort labels) due inner (Atom (Key 0) (codes "key:" ++ decimal 0)) [] ((codes "key:" ++ decimal 0) ∷ []) is tt spare_operand refl)
  place_begins (One pc) inner is = (is.is.written, [], is.is.proper, sym is.is.tokens ∙ sym (append-nil inner))
  place_begins (Role pc) inner is =
      let a = is.1 in (
        RoleOf a.is.written 0 (codes "role:" ++ decimal 0),
        (codes "role:" ++ decimal 0) ∷ [],
        (a.operand, a.is.proper, inl (omega arith, refl)),
        ap (λ l. l ++ codes "as" ∷ (codes "role:" ++ decimal 0) ∷ []) (sym a.is.tokens) ∙ sym (append_assoc is.0 (codes "as" ∷ []) ((codes "role:" ++ decimal 0) ∷ [])) ∙ ap (λ l. l ++ (codes "role:" ++ decimal 0) ∷ []) (sym is.2),
      )
  place_begins (Whole pc) inner is = (is.written, [], is.proper, sym is.tokens ∙ sym (append-nil inner))

  -- what was read can go on
  pub state_begins : (stack : List Pending) (place : Stage) (front : List (List ℕ)) → WasRead labels stack place front → CanBegin labels front
  state_begins stack place front read = subst (λ (l : List (List ℕ)). CanBegin labels l) (sym read.whole) (open_begins labels (IsProper labels) (proper_sort labels) stack read.outer read.inner read.is_open (place_begins place read.inner read.is_place))

  -- a word can stand where an operand is due
  operand_stands : (stack : List Pending) (due : Pending) (front : List (List ℕ)) (word : List ℕ) → WasRead labels stack (Operand due) front → IsOperandWord word → CanStand (front ++ word ∷ [])
  operand_stands stack due front word read is =
      let here = due_begins labels IsShaped (shaped_sort labels) due read.inner (Atom (Key 0) word) (word ∷ []) [] read.is_place tt is refl in
      subst (λ (l : List (List ℕ)). CanStand l) (sym (append_assoc read.outer read.inner (word ∷ [])) ∙ ap (λ l. l ++ word ∷ []) (sym read.whole)) (open_begins labels IsShaped (shaped_sort labels) stack read.outer (read.inner ++ word ∷ []) read.is_open here)

  -- a word can stand where a role is due
  role_stands : (stack : List Pending) (pc : Piece) (front : List (List ℕ)) (word : List ℕ) → WasRead labels stack (Role pc) front → IsRoleWord word → CanStand (front ++ word ∷ [])
  role_stands stack pc front word read is =
      let a = read.is_place.1 in
      let left = read.is_place.0 in
      let here : CanStand (read.inner ++ word ∷ []) = (
        RoleOf a.is.written 0 word,
        [],
        (a.operand, shaped labels a.is.written a.is.proper, is),
        ap (λ l. l ++ codes "as" ∷ word ∷ []) (sym a.is.tokens) ∙ sym (append_assoc left (codes "as" ∷ []) (word ∷ [])) ∙ ap (λ l. l ++ word ∷ []) (sym read.is_place.2) ∙ sym (append-nil (read.inner ++ word ∷ [])),
      ) in
      subst (λ (l : List (List ℕ)). CanStand l) (sym (append_assoc read.outer read.inner (word ∷ [])) ∙ ap (λ l. l ++ word ∷ []) (sym read.whole)) (open_begins labels IsShaped (shaped_sort labels) stack read.outer (read.inner ++ word ∷ []) read.is_open here)

-- the first way that a result may go
result_cases : {A E : Type 0} (r : Result A E) → ((x : A) × (r ≡ Ok x)) ⊎ ((e : E) × (r ≡ Err e))
result_cases (Ok x) = inl (x, refl)
result_cases (Err e) = inr (e, refl)

-- where a principal may end or not
pub finished_cases : (at : ℕ) (stack : List Pending) (place : Stage) → ((pc : Piece) × (finished at stack place ≡ Ok pc)) ⊎ (finished at stack place ≡ Err (Bad at Syntax))
finished_cases at [] (One p) = inl (p, refl)
finished_cases at [] (Whole p) = inl (p, refl)
finished_cases at [] (Operand due) = inr refl
finished_cases at [] (Role p) = inr refl
finished_cases at (due ∷ stack) (One p) = inr refl
finished_cases at (due ∷ stack) (Whole p) = inr refl
finished_cases at (due ∷ stack) (Operand d) = inr refl
finished_cases at (due ∷ stack) (Role p) = inr refl

-- what a step answers where no word is due
ended_cases : (at : ℕ) (stack : List Pending) (p : Piece) → ((s : State) × (ended at stack p ≡ Ok s)) ⊎ (ended at stack p ≡ Err (Bad at Syntax))
ended_cases at [] p = inr refl
ended_cases at (due ∷ stack) p = inl ((stack, filled due p), refl)

one_by : (at : ℕ) (stack : List Pending) (p : Piece) (r : Result State TextFault)
    (b c d e f : Bool) → (((s : State) × (r ≡ Ok s)) ⊎ (r ≡ Err (Bad at Syntax))) →
    (let x : Result State TextFault =
    cond b r (cond c (Ok (stack, Operand (Second p kinds.And)))
    (cond d (Ok (stack, Operand (Second p kinds.Quoting)))
    (cond e (Ok (stack, Operand (Second p kinds.For)))
    (cond f (Ok (stack, Role p)) (Err (Bad at Syntax)))))) in ((s : State) × (x ≡ Ok s))
    ⊎ (x ≡ Err (Bad at Syntax)))
one_by at stack p r true c d e f is = is
one_by at stack p r false true d e f is = inl ((stack, Operand (Second p kinds.And)), refl)
one_by at stack p r false false true e f is = inl ((stack, Operand (Second p kinds.Quoting)), refl)
one_by at stack p r false false false true f is = inl ((stack, Operand (Second p kinds.For)), refl)
one_by at stack p r false false false false true is = inl ((stack, Role p), refl)
one_by at stack p r false false false false false is = inr refl

one_cases : (at : ℕ) (t : List ℕ) (stack : List Pending) (p : Piece) → ((s : State) × (at_one at t stack p ≡ Ok s)) ⊎ (at_one at t stack p ≡ Err (Bad at Syntax))
unfolding at_one
one_cases at t stack p = one_by at stack p (ended at stack p) (bytes_eq t (codes ")")) (bytes_eq t (codes "and")) (bytes_eq t (codes "|")) (bytes_eq t (codes "for")) (bytes_eq t (codes "as")) (ended_cases at stack p)

whole_by : (at : ℕ) (r : Result State TextFault) (b : Bool) → (((s : State) × (r ≡ Ok s)) ⊎ (r ≡ Err (Bad at Syntax))) → (let x : Result State TextFault = cond b r (Err (Bad at Syntax)) in ((s : State) × (x ≡ Ok s)) ⊎ (x ≡ Err (Bad at Syntax)))
whole_by at r true is = is
whole_by at r false is = inr refl

whole_cases : (at : ℕ) (t : List ℕ) (stack : List Pending) (p : Piece) → ((s : State) × (at_whole at t stack p ≡ Ok s)) ⊎ (at_whole at t stack p ≡ Err (Bad at Syntax))
unfolding at_whole
whole_cases at t stack p = whole_by at (ended at stack p) (bytes_eq t (codes ")")) (ended_cases at stack p)

-- faults that are one have one cause
cause_is : (o p : ℕ) (c d : TextCause) → (let x : Result Piece TextFault = Err (Bad o c) in x) ≡ Err (Bad p d) → c ≡ d
cause_is o p c d e = cc

-- tokens with these bytes
pub placed : List (List ℕ) → List Placed
placed [] = []
placed (t ∷ ts) = (0, t) ∷ placed ts

pub words-placed : (ts : List (List ℕ)) → words (placed ts) ≡ ts
unfolding placed
words-placed [] = refl
words-placed (t ∷ ts) = ap (λ l. t ∷ l) (words-placed ts)

pub words-append : (xs ys : List Placed) → words (xs ++ ys) ≡ words xs ++ words ys
words-append xs ys = map-append (λ t. t.1) xs ys

module _ (labels : Labels) (end : ℕ) where
  -- what all of the tokens from a state on are
  abbrev pub rest_of : List Placed → List Pending → Stage → Result Piece TextFault
  rest_of tokens stack place = piece_at labels end tokens stack place >>= alone

  -- reading these tokens leads to a state
  pub record Leads (done : List Placed) (stack : List Pending) (place : Stage) : Type 0 where
    pub runs : (rest : List Placed) → piece_at labels end (done ++ rest) [] (Operand First) ≡ piece_at labels end rest stack place
    pub read : WasRead labels stack place (words done)

  pub starts : Leads [] [] (Operand First)
  starts = record { runs = λ rest. refl; read = record { outer = []; inner = []; is_open = refl; is_place = refl; whole = refl } }

  -- one token more
  pub leads_on : (done : List Placed) (stack : List Pending) (place : Stage) (at : ℕ) (t : List ℕ) (s : State) → Leads done stack place → bytes_eq t (codes ";") ≡ false → step labels at t stack place ≡ Ok s → Leads (done ++ (at, t) ∷ []) s.0 s.1
  leads_on done stack place at t s leads other e = record {
    runs = λ rest. ap (λ l. piece_at labels end l [] (Operand First)) (append_assoc done ((at, t) ∷ []) rest) ∙ leads.runs ((at, t) ∷ rest) ∙ goes_on labels end at t rest stack place s other e;
    read = subst (λ (l : List (List ℕ)). WasRead labels s.0 s.1 l) (sym (words-append done ((at, t) ∷ []))) (steps labels at t stack place s (words done) leads.read e);
  }

  piece_ends : (w : Written) (pc : Piece) → rest_of [] [] (standing w pc) ≡ Ok pc
  piece_ends w pc = ap (λ r. r >>= alone) (piece_at-end labels end w pc)

  -- what goes on, or is refused for a word, is not refused for its syntax
  went_wrong : (w : Written) (ts : List Placed) (at : ℕ) → Goes labels end (ts ++ []) [] (Operand First) [] (standing w) → rest_of (ts ++ []) [] (Operand First) ≡ Err (Bad at Syntax) → ⊥
  went_wrong w ts at (Passed pc e) fails = absurd (cc (sym fails ∙ ap (λ r. r >>= alone) e ∙ piece_ends w pc))
  went_wrong w ts at (Failed o cause e other) fails = other (cause_is o at cause Syntax (sym (ap (λ r. r >>= alone) e) ∙ fails))

  module _ (done : List Placed) (stack : List Pending) (place : Stage) (leads : Leads done stack place) (at : ℕ) (t : List ℕ) where
    -- the token with what follows it
    follows : (more : List (List ℕ)) (w : Written) → tokens_of w ≡ (words done ++ t ∷ []) ++ more → words (done ++ (at, t) ∷ placed more) ≡ tokens_of w
    follows more w same = words-append done ((at, t) ∷ placed more) ∙ ap (λ l. words done ++ t ∷ l) (words-placed more) ∙ sym (append_assoc (words done) (t ∷ []) more) ∙ sym same

    -- a token that can't be read can't stand there
    cannot_stand : ((rest : List Placed) → rest_of ((at, t) ∷ rest) stack place ≡ Err (Bad at Syntax)) → CanStand (words done ++ t ∷ []) → ⊥
    cannot_stand fails (w, more, shape, same) =
        let ts = done ++ (at, t) ∷ placed more in
        let went = (goes labels end w shape).1 ts [] [] (follows more w same) in
        went_wrong w ts at went (ap (λ l. rest_of l [] (Operand First)) (append-nil ts) ∙ ap (λ r. r >>= alone) (leads.runs ((at, t) ∷ placed more)) ∙ fails (placed more))

    -- with a token that is refused no principal begins
    cannot_begin : (f : TextFault) → ((rest : List Placed) → rest_of ((at, t) ∷ rest) stack place ≡ Err f) → CanBegin labels (words done ++ t ∷ []) → ⊥
    cannot_begin f fails (w, more, proper, same) =
        let ts = done ++ (at, t) ∷ placed more in
        let read = piece_in-written labels end ts w proper (follows more w same) in
        let failed = ap (λ r. r >>= alone) (leads.runs ((at, t) ∷ placed more)) ∙ fails (placed more) in
        absurd (cc (sym read ∙ failed))

    refused_step : (cause : TextCause) → bytes_eq t (codes ";") ≡ false → step labels at t stack place ≡ Err (Bad at cause) → (rest : List Placed) → rest_of ((at, t) ∷ rest) stack place ≡ Err (Bad at cause)
    refused_step cause other e rest = ap (λ r. r >>= alone) (refused_word labels end at t rest stack place cause other e)

    -- a `;` or a principal that does not end
    semicolon : bytes_eq t (codes ";") ≡ true → (rest : List Placed) → rest_of ((at, t) ∷ rest) stack place ≡ Err (Bad at Syntax)
    unfolding piece_at
    semicolon is rest = elim (finished_cases at stack place) [
      | inl ok ↦ rw (is, ok.1) refl
      | inr nope ↦ rw (is, nope) refl
    ]

  -- what becomes of a token in a state
  pub data Judged (front : List (List ℕ)) (at : ℕ) (t : List ℕ) (stack : List Pending) (place : Stage) : Type 0 where
    Taken : (s : State) → bytes_eq t (codes ";") ≡ false → step labels at t stack place ≡ Ok s → Judged front at t stack place
    Wrong : (cause : TextCause) → ((rest : List Placed) → rest_of ((at, t) ∷ rest) stack place ≡ Err (Bad at cause)) → IsWrongToken labels front t cause → Judged front at t stack place

  refused_here : (at : ℕ) (t : List ℕ) (stack : List Pending) (due : Pending) (cause : TextCause) → bytes_eq t (codes "(") ≡ false → operand_of labels.names t ≡ Err cause → step labels at t stack (Operand due) ≡ Err (Bad at cause)
  unfolding at_operand
  refused_here at t stack due cause nope e = rw (nope, e) refl

  -- a word where an operand is due
  operand_judged : (done : List Placed) (stack : List Pending) (due : Pending) (at : ℕ)
      (t : List ℕ) → Leads done stack (Operand due) → bytes_eq t (codes ";") ≡ false →
      bytes_eq t (codes "(") ≡ false →
      WordAnswer (IsOperandWord t) (is_label t) (operand_of labels.names t) →
      Judged (words done) at t stack (Operand due)
  operand_judged done stack due at t leads other nope (WordRead p e is) = Taken (stack, filled due (Built p 1)) other (fills labels end at t p stack due e)
  operand_judged done stack due at t leads other nope (WordNumber e is label) =
      let fails = refused_step done stack (Operand due) leads at t Number other (refused_here at t stack due Number nope e) in
      Wrong Number fails (operand_stands labels stack due (words done) t leads.read is, cannot_begin done stack (Operand due) leads at t (Bad at Number) fails, label)
  operand_judged done stack due at t leads other nope (WordUnknown e is label) =
      let fails = refused_step done stack (Operand due) leads at t UnknownName other (refused_here at t stack due UnknownName nope e) in
      Wrong UnknownName fails (operand_stands labels stack due (words done) t leads.read is, cannot_begin done stack (Operand due) leads at t (Bad at UnknownName) fails, label)
  operand_judged done stack due at t leads other nope (WordNone e none) =
      let fails = refused_step done stack (Operand due) leads at t Syntax other (refused_here at t stack due Syntax nope e) in
      Wrong Syntax fails (cannot_stand done stack (Operand due) leads at t fails)

  -- a word where a role is due
  role_judged : (done : List Placed) (stack : List Pending) (pc : Piece) (at : ℕ) (t : List ℕ) → Leads done stack (Role pc) → bytes_eq t (codes ";") ≡ false → WordAnswer (IsRoleWord t) (is_label t) (role_of labels.roles t) → Judged (words done) at t stack (Role pc)
  role_judged done stack pc at t leads other (WordRead r e is) = Taken (stack, Whole (in_role pc r)) other (role_taken labels end at t stack pc r e)
  role_judged done stack pc at t leads other (WordNumber e is label) =
      let fails = refused_step done stack (Role pc) leads at t Number other (role_refused labels end at t stack pc Number e) in
      Wrong Number fails (role_stands labels stack pc (words done) t leads.read is, cannot_begin done stack (Role pc) leads at t (Bad at Number) fails, label)
  role_judged done stack pc at t leads other (WordUnknown e is label) =
      let fails = refused_step done stack (Role pc) leads at t UnknownName other (role_refused labels end at t stack pc UnknownName e) in
      Wrong UnknownName fails (role_stands labels stack pc (words done) t leads.read is, cannot_begin done stack (Role pc) leads at t (Bad at UnknownName) fails, label)
  role_judged done stack pc at t leads other (WordNone e none) =
      let fails = refused_step done stack (Role pc) leads at t Syntax other (role_refused labels end at t stack pc Syntax e) in
      Wrong Syntax fails (cannot_stand done stack (Role pc) leads at t fails)

  -- where no word is due
  mark_judged : (done : List Placed) (stack : List Pending) (place : Stage) (at : ℕ) (t : List ℕ) →
      Leads done stack place → bytes_eq t (codes ";") ≡ false →
      (((s : State) × (step labels at t stack place ≡ Ok s))
      ⊎ (step labels at t stack place ≡ Err (Bad at Syntax))) → Judged (words done) at t stack place
  mark_judged done stack place at t leads other (inl (s, e)) = Taken s other e
  mark_judged done stack place at t leads other (inr e) =
      let fails = refused_step done stack place leads at t Syntax other e in
      Wrong Syntax fails (cannot_stand done stack place leads at t fails)

  judged_by : (done : List Placed) (stack : List Pending) (place : Stage) (at : ℕ) (t : List ℕ) → Leads done stack place → bytes_eq t (codes ";") ≡ false → Judged (words done) at t stack place
  judged_by done stack (Operand due) at t leads other = elim (texts_tell t (codes "(")) [
    | inl same ↦ Taken (due ∷ stack, Operand First) other (ap (λ w. step labels at w stack (Operand due)) same.1 ∙ opens labels end at stack due)
    | inr nope ↦ operand_judged done stack due at t leads other nope.0 (operand_answer t labels.names)
  ]
  judged_by done stack (One p) at t leads other = mark_judged done stack (One p) at t leads other (one_cases at t stack p)
  judged_by done stack (Role p) at t leads other = role_judged done stack p at t leads other (role_answer t labels.roles)
  judged_by done stack (Whole p) at t leads other = mark_judged done stack (Whole p) at t leads other (whole_cases at t stack p)

  pub judged : (done : List Placed) (stack : List Pending) (place : Stage) (at : ℕ) (t : List ℕ) → Leads done stack place → Judged (words done) at t stack place
  judged done stack place at t leads = elim (texts_tell t (codes ";")) [
    | inl same ↦
        let fails = semicolon done stack place leads at t same.0 in
        Wrong Syntax fails (cannot_stand done stack place leads at t fails)
    | inr other ↦ judged_by done stack place at t leads other.0
  ]

  -- what is read of the tokens after those that were read, where one is wrong
  pub record Faults (done tokens : List Placed) (f : TextFault) : Type 0 where
    pub at : ℕ
    pub cause : TextCause
    pub used : List Placed
    pub rest : List Placed
    pub fault : f ≡ Bad at cause
    pub split : tokens ≡ used ++ rest
    pub begins : CanBegin labels (words (done ++ used))
    pub wrong : IsWrong labels (words (done ++ used)) rest cause
    pub place : at ≡ first_place rest end

  err_is : (f g : TextFault) → (let x : Result Piece TextFault = Err f in x) ≡ Err g → g ≡ f
  err_is f g e = cc

  -- nothing is used where the first token is wrong
  here : (done tokens : List Placed) (stack : List Pending) (place : Stage) (f : TextFault) (at : ℕ) (cause : TextCause) → Leads done stack place → f ≡ Bad at cause → IsWrong labels (words done) tokens cause → at ≡ first_place tokens end → Faults done tokens f
  here done tokens stack place f at cause leads is wrong first = record {
    at = at;
    cause = cause;
    used = [];
    rest = tokens;
    fault = is;
    split = refl;
    begins = subst (λ (l : List Placed). CanBegin labels (words l)) (sym (append-nil done)) (state_begins labels stack place (words done) leads.read);
    wrong = subst (λ (l : List Placed). IsWrong labels (words l) tokens cause) (sym (append-nil done)) wrong;
    place = first;
  }

  -- at the end
  something_ends : (stack : List Pending) (place : Stage) (pc : Piece) → finished end stack place ≡ Ok pc → rest_of [] stack place ≡ Ok pc
  unfolding piece_at
  something_ends stack place pc e = rw e refl

  pub nothing_ends : (stack : List Pending) (place : Stage) (f : TextFault) → finished end stack place ≡ Err f → rest_of [] stack place ≡ Err f
  unfolding piece_at
  nothing_ends stack place f e = rw e refl

  -- the principal is not complete where it may not end
  incomplete : (done : List Placed) (stack : List Pending) (place : Stage) → Leads done stack place → finished end stack place ≡ Err (Bad end Syntax) → IsComplete labels (words done) → ⊥
  incomplete done stack place leads nope (w, proper, same) =
      let read = piece_in-written labels end done w proper (sym same) in
      let failed = ap (λ r. r >>= alone) (ap (λ l. piece_at labels end l [] (Operand First)) (sym (append-nil done)) ∙ leads.runs []) ∙ nothing_ends stack place (Bad end Syntax) nope in
      absurd (cc (sym read ∙ failed))

  faults_by : (at : ℕ) (t : List ℕ) (tokens done : List Placed) (stack : List Pending)
      (place : Stage) (f : TextFault) → Leads done stack place →
      rest_of ((at, t) ∷ tokens) stack place ≡ Err f → Judged (words done) at t stack place →
      ((s : State) → Leads (done ++ (at, t) ∷ []) s.0 s.1 → rest_of tokens s.0 s.1 ≡ Err f →
      Faults (done ++ (at, t) ∷ []) tokens f) → Faults done ((at, t) ∷ tokens) f
  faults_by at t tokens done stack place f leads e (Taken s other step) further =
      let next = leads_on done stack place at t s leads other step in
      let rest = further s next (sym (ap (λ r. r >>= alone) (goes_on labels end at t tokens stack place s other step)) ∙ e) in
      record {
        at = rest.at;
        cause = rest.cause;
        used = (at, t) ∷ rest.used;
        rest = rest.rest;
        fault = rest.fault;
        split = ap (λ l. (at, t) ∷ l) rest.split;
        begins = subst (λ (l : List Placed). CanBegin labels (words l)) (append_assoc done ((at, t) ∷ []) rest.used) rest.begins;
        wrong = subst (λ (l : List Placed). IsWrong labels (words l) rest.rest rest.cause) (append_assoc done ((at, t) ∷ []) rest.used) rest.wrong;
        place = rest.place;
      }
  faults_by at t tokens done stack place f leads e (Wrong cause fails wrong) further =
      here done ((at, t) ∷ tokens) stack place f at cause leads (err_is (Bad at cause) f (sym (fails tokens) ∙ e)) wrong refl

  -- what is refused has a wrong token
  pub faults : (tokens done : List Placed) (stack : List Pending) (place : Stage) (f : TextFault) → Leads done stack place → rest_of tokens stack place ≡ Err f → Faults done tokens f
  faults [] done stack place f leads e = elim (finished_cases end stack place) [
    | inl ok ↦ absurd (cc (sym (something_ends stack place ok.0 ok.1) ∙ e))
    | inr nope ↦ here done [] stack place f end Syntax leads (err_is (Bad end Syntax) f (sym (nothing_ends stack place (Bad end Syntax) nope) ∙ e)) (incomplete done stack place leads nope) refl
  ]
  faults ((at, t) ∷ tokens) done stack place f leads e = faults_by at t tokens done stack place f leads e (judged done stack place at t leads) (λ s next. faults tokens (done ++ (at, t) ∷ []) s.0 s.1 f next)
