-- A text that is refused is answered with that fault, and no other text with one.
use Rattle.std.proofs.Common.{◌≡◌, ℕ, Bool, true, false, cond, leb, List, [], ◌∷◌, ◌++◌, length, Result, Ok, Err, refl, sym, ◌∙◌, ap, subst, inl, inr, append_assoc, arith}
use Rattle.std.proofs.lemmas.Bool.{false≢true}
use Rattle.std.proofs.lemmas.Bool.Decides.{nat_tests, leb_tells}
use Rattle.std.proofs.lemmas.List.{append-nil}
use Rattle.prin_term.specs.declared.limits.TheConstants.{CERT_NODES, MAX_DEPTH}
use Rattle.prin_term.specs.Principal.{Principal, node_count, depth}
use Rattle.byte_fields.specs.Steps.{◌>>=◌}
use Rattle.byte_fields.proofs.Results.{bind_err}
use Rattle.prin_text.specs.declared.fault.TextCause.{TextCause}
use Rattle.prin_text.specs.declared.fault.TextCause.TheVariants.{Syntax, Number, UnknownName, TooDeep, TooLarge, Rights, TooMany}
use Rattle.prin_text.specs.declared.fault.TextFault.{TextFault}
use Rattle.prin_text.specs.declared.fault.TextFault.TheVariants.{Bad}
use Rattle.prin_text.specs.Labels.{Labels, is_label}
use Rattle.prin_text.specs.Meaning.{meaning, tokens_of, IsSpaced, IsText}
use Rattle.prin_text.specs.Pieces.{Piece, Built, Deep}
use Rattle.prin_text.specs.Reading.{Pending, First, Stage, Operand, State, alone, measured, piece_in, principal_in, step}
use Rattle.prin_text.specs.Refusing.{CanBegin, IsComplete, IsLacking, IsOver, IsRefused, IsWrong, IsWrongToken}
use Rattle.prin_text.specs.Tokens.{Placed, first_place, tokens_from}
use Rattle.prin_text.proofs.Again.{words, goes_on}
use Rattle.prin_text.proofs.Found.{finishes}
use Rattle.prin_text.proofs.Pieced.{piece_of}
use Rattle.prin_text.proofs.Refused.{Judged, Leads, Taken, Wrong, faults, finished_cases, judged, leads_on, placed, rest_of, starts, state_begins, words-append, words-placed, nothing_ends}
use Rattle.prin_text.proofs.Shaped.{shaped}
use Rattle.prin_text.proofs.Whole.{piece_in-ok, piece_in-written, tokens_spaced, spaced_tokens}

module _ (labels : Labels) (front : List (List ℕ)) (t : List ℕ) where
  -- a token with which a principal begins is not wrong
  not_wrong : (cause : TextCause) → CanBegin labels (front ++ t ∷ []) → IsWrongToken labels front t cause → ⊥
  not_wrong Syntax (w, more, proper, same) wrong = wrong (w, more, shaped labels w proper, same)
  not_wrong Number begins wrong = wrong.1 begins
  not_wrong UnknownName begins wrong = wrong.1 begins
  not_wrong TooDeep begins wrong = wrong
  not_wrong TooLarge begins wrong = wrong
  not_wrong Rights begins wrong = wrong
  not_wrong TooMany begins wrong = wrong

  apart : (b : Bool) → b ≡ true → b ≡ false → ⊥
  apart b x y = false≢true (sym y ∙ x)

  -- a token is wrong in one way
  one_cause : (c d : TextCause) → IsWrongToken labels front t c → IsWrongToken labels front t d → c ≡ d
  one_cause Syntax Syntax x y = refl
  one_cause Syntax Number x y = absurd (x y.0)
  one_cause Syntax UnknownName x y = absurd (x y.0)
  one_cause Number Syntax x y = absurd (y x.0)
  one_cause Number Number x y = refl
  one_cause Number UnknownName x y = absurd (apart (is_label t) y.2 x.2)
  one_cause UnknownName Syntax x y = absurd (y x.0)
  one_cause UnknownName Number x y = absurd (apart (is_label t) x.2 y.2)
  one_cause UnknownName UnknownName x y = refl
  one_cause Syntax TooDeep x y = absurd y
  one_cause Syntax TooLarge x y = absurd y
  one_cause Syntax Rights x y = absurd y
  one_cause Syntax TooMany x y = absurd y
  one_cause Number TooDeep x y = absurd y
  one_cause Number TooLarge x y = absurd y
  one_cause Number Rights x y = absurd y
  one_cause Number TooMany x y = absurd y
  one_cause UnknownName TooDeep x y = absurd y
  one_cause UnknownName TooLarge x y = absurd y
  one_cause UnknownName Rights x y = absurd y
  one_cause UnknownName TooMany x y = absurd y
  one_cause TooDeep d x y = absurd x
  one_cause TooLarge d x y = absurd x
  one_cause Rights d x y = absurd x
  one_cause TooMany d x y = absurd x

-- where one is lacking the cause is its lack
lacking_is : (labels : Labels) (front : List (List ℕ)) (c : TextCause) → IsLacking labels front c → (c ≡ Syntax) × (IsComplete labels front → ⊥)
lacking_is labels front Syntax lack = (refl, lack)
lacking_is labels front Number lack = absurd lack
lacking_is labels front UnknownName lack = absurd lack
lacking_is labels front TooDeep lack = absurd lack
lacking_is labels front TooLarge lack = absurd lack
lacking_is labels front Rights lack = absurd lack
lacking_is labels front TooMany lack = absurd lack

module _ (labels : Labels) (end : ℕ) where
  -- the state to which tokens lead
  pub record Arrives (done : List Placed) : Type 0 where
    pub stack : List Pending
    pub place : Stage
    pub leads : Leads labels end done stack place

  arrives_by : (at : ℕ) (t : List ℕ) (tokens more done : List Placed) (stack : List Pending)
      (place : Stage) (pc : Piece) → Leads labels end done stack place →
      rest_of labels end ((at, t) ∷ (tokens ++ more)) stack place ≡ Ok pc →
      Judged labels end (words done) at t stack place →
      ((s : State) → Leads labels end (done ++ (at, t) ∷ []) s.0 s.1 →
      rest_of labels end (tokens ++ more) s.0 s.1 ≡ Ok pc →
      Arrives ((done ++ (at, t) ∷ []) ++ tokens)) → Arrives (done ++ (at, t) ∷ tokens)
  arrives_by at t tokens more done stack place pc leads e (Taken s other step) further =
      subst Arrives (append_assoc done ((at, t) ∷ []) tokens)
      (further s (leads_on labels end done stack place at t s leads other step) (sym (ap (λ r. r >>= alone) (goes_on labels end at t (tokens ++ more) stack place s other step)) ∙ e))
  arrives_by at t tokens more done stack place pc leads e (Wrong cause fails wrong) further = absurd (cc (sym (fails (tokens ++ more)) ∙ e))

  -- tokens that something read begins with lead to a state
  arrives : (tokens more done : List Placed) (stack : List Pending) (place : Stage) (pc : Piece) → Leads labels end done stack place → rest_of labels end (tokens ++ more) stack place ≡ Ok pc → Arrives (done ++ tokens)
  arrives [] more done stack place pc leads e = subst Arrives (sym (append-nil done)) (record { stack = stack; place = place; leads = leads })
  arrives ((at, t) ∷ tokens) more done stack place pc leads e =
      arrives_by at t tokens more done stack place pc leads e (judged labels end done stack place at t leads) (λ s next further. arrives tokens more (done ++ (at, t) ∷ []) s.0 s.1 pc next further)

  -- tokens with which a principal begins lead to a state
  begun : (done : List Placed) → CanBegin labels (words done) → Arrives done
  begun done (w, more, proper, same) =
      let ts = done ++ placed more in
      let e : words ts ≡ tokens_of w = words-append done (placed more) ∙ ap (λ l. words done ++ l) (words-placed more) ∙ sym same in
      arrives done (placed more) [] [] (Operand First) _ (starts labels end) (piece_in-written labels end ts w proper e)

  wrong_token : (done rest : List Placed) (at : ℕ) (t : List ℕ) (cause : TextCause)
      (stack : List Pending) (place : Stage) → Leads labels end done stack place →
      Judged labels end (words done) at t stack place → IsWrongToken labels (words done) t cause →
      rest_of labels end ((at, t) ∷ rest) stack place ≡ Err (Bad at cause)
  wrong_token done rest at t cause stack place leads (Taken s other step) wrong =
      let next = leads_on labels end done stack place at t s leads other step in
      absurd (not_wrong labels (words done) t cause (subst (λ (l : List (List ℕ)). CanBegin labels l) (words-append done ((at, t) ∷ [])) (state_begins labels s.0 s.1 (words (done ++ (at, t) ∷ [])) next.read)) wrong)
  wrong_token done rest at t cause stack place leads (Wrong other fails wrong') wrong =
      fails rest ∙ ap (λ c. Err (Bad at c)) (one_cause labels (words done) t other cause wrong' wrong)

  wrong_in : (done rest : List Placed) (cause : TextCause) (stack : List Pending) (place : Stage) → Leads labels end done stack place → IsWrong labels (words done) rest cause → rest_of labels end rest stack place ≡ Err (Bad (first_place rest end) cause)
  wrong_in done [] cause stack place leads wrong =
      let lack = lacking_is labels (words done) cause wrong in
      elim (finished_cases end stack place) [
        | inl ok ↦
            let is = finishes labels end stack place ok.0 (words done) leads.read ok.1 in
            absurd (lack.1 (is.written, is.proper, sym is.tokens))
        | inr nope ↦ nothing_ends labels end stack place (Bad end Syntax) nope ∙ ap (λ c. Err (Bad end c)) (sym lack.0)
      ]
  wrong_in done ((at, t) ∷ rest) cause stack place leads wrong = wrong_token done rest at t cause stack place leads (judged labels end done stack place at t leads) wrong

  -- a wrong token is answered with its cause
  wrong_is : (done rest : List Placed) (cause : TextCause) → CanBegin labels (words done) → IsWrong labels (words done) rest cause → piece_in labels end (done ++ rest) ≡ Err (Bad (first_place rest end) cause)
  wrong_is done rest cause begins wrong =
      let a = begun done begins in
      ap (λ r. r >>= alone) (a.leads.runs rest) ∙ wrong_in done rest cause a.stack a.place a.leads wrong

-- ---- and what is too deep or too large

bad_is : (f : TextFault) (o : ℕ) (c : TextCause) → (let x : Result Principal TextFault = Err f in x) ≡ Err (Bad o c) → f ≡ Bad o c
bad_is f o c e = cc

bad_parts : (o p : ℕ) (c d : TextCause) → Bad o c ≡ Bad p d → (o ≡ p) × (c ≡ d)
bad_parts o p c d e = (cc, cc)

-- why a piece is not within the limits
measured_over : (labels : Labels) (bytes : List ℕ) (at o : ℕ) (c : TextCause) (p : Principal) → IsText labels p bytes → measured CERT_NODES at (piece_of p) ≡ Err (Bad o c) → IsOver labels bytes c × (o ≡ at)
measured_over labels bytes at o c p text e = elim (leb_tells (depth p) MAX_DEPTH) [
  | inl fits ↦
      let built : measured CERT_NODES at (Built p (depth p)) ≡ Err (Bad o c) = sym (ap (λ b. measured CERT_NODES at (cond b (Built p (depth p)) Deep)) fits.0) ∙ e in
      elim (leb_tells (node_count p) CERT_NODES) [
        | inl few ↦ absurd (cc (sym (ap (λ b. cond b (Ok p) (Err (Bad at TooLarge))) few.0) ∙ built))
        | inr many ↦
            let parts = bad_parts at o TooLarge c (bad_is (Bad at TooLarge) o c (sym (ap (λ b. cond b (Ok p) (Err (Bad at TooLarge))) many.0) ∙ built)) in
            (subst (IsOver labels bytes) parts.1 (p, text, fits.1, many.1), sym parts.0)
      ]
  | inr over ↦
      let parts = bad_parts at o TooDeep c (bad_is (Bad at TooDeep) o c (sym (ap (λ b. measured CERT_NODES at (cond b (Built p (depth p)) Deep)) over.0) ∙ e)) in
      (subst (IsOver labels bytes) parts.1 (p, text, over.1), sym parts.0)
]

over_measured : (labels : Labels) (bytes : List ℕ) (at : ℕ) (c : TextCause) → IsOver labels bytes c → (p : Principal) × IsText labels p bytes × (measured CERT_NODES at (piece_of p) ≡ Err (Bad at c))
over_measured labels bytes at TooDeep (p, text, deep) =
    let over : leb (depth p) MAX_DEPTH ≡ false = grind (arith, nat_tests) in
    (p, text, ap (λ b. measured CERT_NODES at (cond b (Built p (depth p)) Deep)) over)
over_measured labels bytes at TooLarge (p, text, fits, many) =
    let shallow : leb (depth p) MAX_DEPTH ≡ true = grind (arith, nat_tests) in
    let large : leb (node_count p) CERT_NODES ≡ false = grind (arith, nat_tests) in
    (p, text, ap (λ b. measured CERT_NODES at (cond b (Built p (depth p)) Deep)) shallow ∙ ap (λ b. cond b (Ok p) (Err (Bad at TooLarge))) large)
over_measured labels bytes at Syntax over = absurd over
over_measured labels bytes at Number over = absurd over
over_measured labels bytes at UnknownName over = absurd over
over_measured labels bytes at Rights over = absurd over
over_measured labels bytes at TooMany over = absurd over

-- a fault that is met is that with which the text is refused
pub fault_is_refusal : (labels : Labels) (bytes : List ℕ) (o : ℕ) (c : TextCause) → principal_in labels bytes ≡ Err (Bad o c) → IsRefused labels bytes o c
unfolding principal_in
fault_is_refusal labels bytes o c e =
    let ts = tokens_from bytes 0 in
    let end = length bytes in
    let at = first_place ts end in
    elim (bind_err (piece_in labels end ts) (measured CERT_NODES at) (Bad o c) e) [
      | inl wrong ↦
          let x = faults labels end ts [] [] (Operand First) (Bad o c) (starts labels end) wrong in
          let parts = bad_parts o x.at c x.cause x.fault in
          inl (record {
            front = x.used;
            rest = x.rest;
            tokens = x.split;
            begins = x.begins;
            wrong = subst (IsWrong labels (words x.used) x.rest) (sym parts.1) x.wrong;
            place = parts.0 ∙ x.place;
          })
      | inr over ↦
          let is = piece_in-ok labels end ts over.0 over.1 in
          let text : IsText labels (meaning is.written) bytes = record { written = is.written; proper = is.proper; means = refl; spaced = subst (λ (l : List (List ℕ)). IsSpaced l bytes) is.tokens (tokens_spaced bytes) } in
          inr (measured_over labels bytes at o c (meaning is.written) text (ap (measured CERT_NODES at) (sym is.piece) ∙ over.2))
    ]

-- a text that is refused is answered with that fault
pub refusal_is_fault : (labels : Labels) (bytes : List ℕ) (o : ℕ) (c : TextCause) → IsRefused labels bytes o c → principal_in labels bytes ≡ Err (Bad o c)
unfolding principal_in
refusal_is_fault labels bytes o c (inl is) =
    let ts = tokens_from bytes 0 in
    let end = length bytes in
    ap (λ r. r >>= measured CERT_NODES (first_place ts end)) (ap (piece_in labels end) is.tokens ∙ wrong_is labels end is.front is.rest c is.begins is.wrong)
    ∙ ap (λ n. Err (Bad n c)) (sym is.place)
refusal_is_fault labels bytes o c (inr is) =
    let ts = tokens_from bytes 0 in
    let end = length bytes in
    let at = first_place ts end in
    let over = over_measured labels bytes at c is.0 in
    let text = over.1 in
    let read = piece_in-written labels end ts text.written text.proper (spaced_tokens (tokens_of text.written) bytes text.spaced) in
    ap (λ r. r >>= measured CERT_NODES at) (read ∙ ap (λ q. Ok (piece_of q)) text.means) ∙ over.2 ∙ ap (λ n. Err (Bad n c)) (sym is.1)
