-- What is read as a list is one, and what is a list is read.
use Rattle.std.proofs.Common.{◌≡◌, ◌≢◌, ◌⊎◌, ℕ, zero, suc, ◌+◌, ◌*◌, ◌<◌, ◌≤◌, Bool, true, false, cond, List, [], ◌∷◌, ◌++◌, length, Option, Some, None, Result, Ok, refl, sym, ◌∙◌, ap, subst, inl, inr, append_assoc, arith, eqb}
use Rattle.std.specs.Prelude.{bytes_eq, codes}
use Rattle.std.proofs.lemmas.Bool.{false≢true}
use Rattle.std.proofs.lemmas.Bool.Decides.{nat_tests, eqb_tells}
use Rattle.std.proofs.lemmas.List.{append-nil}
use Rattle.prin_term.specs.declared.limits.TheConstants.{ENTRY_NODES, MAX_DEPTH}
use Rattle.prin_term.specs.Principal.{Principal, node_count, depth}
use Rattle.byte_fields.specs.Steps.{◌>>=◌}
use Rattle.prin_term.specs.View.{Grant}
use Rattle.byte_fields.proofs.Results.{bind_ok, ok_is}
use Rattle.prin_text.specs.declared.fault.TextFault.{TextFault}
use Rattle.prin_text.specs.declared.limits.TheConstants.{MAX_ENTRIES}
use Rattle.prin_text.specs.Labels.{Labels}
use Rattle.prin_text.specs.ListMeaning.{AreEntriesOf, IsEntryOf, IsListText}
use Rattle.prin_text.specs.Lists.{rights_at, who_at, entry_at, further, entries_at, list_of, list_in}
use Rattle.prin_text.specs.Meaning.{Written, meaning, tokens_of, IsProper}
use Rattle.prin_text.specs.Pieces.{Piece}
use Rattle.prin_text.specs.Printing.{rights_text}
use Rattle.prin_text.specs.Reading.{Pending, Stage, First, Operand, State, measured, piece_at, finished, step}
use Rattle.prin_text.specs.Tokens.{Placed, first_place, tokens_from}
use Rattle.prin_text.specs.Words.{all_rights, letter_off, rights_of}
use Rattle.prin_text.proofs.Again.{words, reads, standing}
use Rattle.prin_text.proofs.Found.{WasRead, found}
use Rattle.prin_text.proofs.Listed.{Stops, has_tokens, none_listed, rights_again}
use Rattle.prin_text.proofs.Pieced.{piece_of}
use Rattle.prin_text.proofs.Texts.{texts_tell}
use Rattle.prin_text.proofs.Whole.{finished-standing, measured-fits, measured-ok}

-- ---- rights

-- one or nothing, and the letter where it is one
abbrev bit : Bool → ℕ
bit true = 1
bit false = 0

abbrev taken : Bool → ℕ → List ℕ → List ℕ
taken true letter rest = letter ∷ rest
taken false letter rest = rest

-- how a letter was taken off
record TakesOff (letter : ℕ) (word : List ℕ) : Type 0 where
  pub is : Bool
  pub rest : List ℕ
  pub off : letter_off letter word ≡ (bit is, rest)
  pub word_is : word ≡ taken is letter rest

takes_off : (letter : ℕ) (word : List ℕ) → TakesOff letter word
takes_off letter [] = record { is = false; rest = []; off = refl; word_is = refl }
takes_off letter (b ∷ word) = elim (eqb_tells b letter) [
  | inl same ↦ record { is = true; rest = word; off = ap (λ t. cond t (1, word) (0, b ∷ word)) same.0; word_is = ap (λ x. x ∷ word) same.1 }
  | inr other ↦ record { is = false; rest = b ∷ word; off = ap (λ t. cond t (1, word) (0, b ∷ word)) other.0; word_is = refl }
]

-- rights that were read, and their letters
abbrev AreRights : ℕ → List ℕ → Type 0
AreRights n word = (0 < n) × (n < 16) × (word ≡ rights_text n)

some_number : (m n : ℕ) → Some m ≡ Some n → m ≡ n
some_number m n e = cc

rights_by : (r w c m : Bool) (rest : List ℕ) (n : ℕ) → all_rights (bit r + 2 * bit w + 4 * bit c + 8 * bit m) rest ≡ Some n → AreRights n (taken r 114 (taken w 119 (taken c 99 (taken m 109 rest))))
rights_by true true true true [] n e = subst (λ (k : ℕ). AreRights k (taken true 114 (taken true 119 (taken true 99 (taken true 109 []))))) (some_number 15 n e) (omega arith, omega arith, refl)
rights_by true true true false [] n e = subst (λ (k : ℕ). AreRights k (taken true 114 (taken true 119 (taken true 99 (taken false 109 []))))) (some_number 7 n e) (omega arith, omega arith, refl)
rights_by true true false true [] n e = subst (λ (k : ℕ). AreRights k (taken true 114 (taken true 119 (taken false 99 (taken true 109 []))))) (some_number 11 n e) (omega arith, omega arith, refl)
rights_by true true false false [] n e = subst (λ (k : ℕ). AreRights k (taken true 114 (taken true 119 (taken false 99 (taken false 109 []))))) (some_number 3 n e) (omega arith, omega arith, refl)
rights_by true false true true [] n e = subst (λ (k : ℕ). AreRights k (taken true 114 (taken false 119 (taken true 99 (taken true 109 []))))) (some_number 13 n e) (omega arith, omega arith, refl)
rights_by true false true false [] n e = subst (λ (k : ℕ). AreRights k (taken true 114 (taken false 119 (taken true 99 (taken false 109 []))))) (some_number 5 n e) (omega arith, omega arith, refl)
rights_by true false false true [] n e = subst (λ (k : ℕ). AreRights k (taken true 114 (taken false 119 (taken false 99 (taken true 109 []))))) (some_number 9 n e) (omega arith, omega arith, refl)
rights_by true false false false [] n e = subst (λ (k : ℕ). AreRights k (taken true 114 (taken false 119 (taken false 99 (taken false 109 []))))) (some_number 1 n e) (omega arith, omega arith, refl)
rights_by false true true true [] n e = subst (λ (k : ℕ). AreRights k (taken false 114 (taken true 119 (taken true 99 (taken true 109 []))))) (some_number 14 n e) (omega arith, omega arith, refl)
rights_by false true true false [] n e = subst (λ (k : ℕ). AreRights k (taken false 114 (taken true 119 (taken true 99 (taken false 109 []))))) (some_number 6 n e) (omega arith, omega arith, refl)
rights_by false true false true [] n e = subst (λ (k : ℕ). AreRights k (taken false 114 (taken true 119 (taken false 99 (taken true 109 []))))) (some_number 10 n e) (omega arith, omega arith, refl)
rights_by false true false false [] n e = subst (λ (k : ℕ). AreRights k (taken false 114 (taken true 119 (taken false 99 (taken false 109 []))))) (some_number 2 n e) (omega arith, omega arith, refl)
rights_by false false true true [] n e = subst (λ (k : ℕ). AreRights k (taken false 114 (taken false 119 (taken true 99 (taken true 109 []))))) (some_number 12 n e) (omega arith, omega arith, refl)
rights_by false false true false [] n e = subst (λ (k : ℕ). AreRights k (taken false 114 (taken false 119 (taken true 99 (taken false 109 []))))) (some_number 4 n e) (omega arith, omega arith, refl)
rights_by false false false true [] n e = subst (λ (k : ℕ). AreRights k (taken false 114 (taken false 119 (taken false 99 (taken true 109 []))))) (some_number 8 n e) (omega arith, omega arith, refl)
rights_by false false false false [] n e = absurd cc
rights_by r w c m (b ∷ rest) n e = absurd cc

-- a word that is read as rights is their letters
pub rights_of-ok : (word : List ℕ) (n : ℕ) → rights_of word ≡ Some n → AreRights n word
unfolding rights_of
rights_of-ok word n e =
    let r = takes_off 114 word in
    let w = takes_off 119 r.rest in
    let c = takes_off 99 w.rest in
    let m = takes_off 109 c.rest in
    let letters : word ≡ taken r.is 114 (taken w.is 119 (taken c.is 99 (taken m.is 109 m.rest))) =
    r.word_is ∙ ap (taken r.is 114) (w.word_is ∙ ap (taken w.is 119) (c.word_is ∙ ap (taken c.is 99) m.word_is)) in
    subst (AreRights n) (sym letters) (rights_by r.is w.is c.is m.is m.rest n (rw (r.off, w.off, c.off, m.off) at e))

-- ---- where reading a principal stops

module _ (labels : Labels) (end : ℕ) where
  pair_rest : (p q : Piece) (ts us : List Placed) → (let x : Result (Piece × List Placed) TextFault = Ok (p, ts) in x) ≡ Ok (q, us) → ts ≡ us
  pair_rest p q ts us e = ap (λ x. x.1) (ok_is TextFault (p, ts) (q, us) e)

  -- what is left is nothing, or begins with a `;`
  pub piece_stops : (tokens : List Placed) (stack : List Pending) (place : Stage) (pc : Piece) (rest : List Placed) → piece_at labels end tokens stack place ≡ Ok (pc, rest) → Stops rest
  unfolding piece_at
  piece_stops [] stack place pc rest e =
      let p = bind_ok (finished end stack place) (λ q. let made : Piece × List Placed = (q, []) in Ok made) (pc, rest) e in
      subst Stops (pair_rest p.0 pc [] rest p.2) tt
  piece_stops ((at, token) ∷ tokens) stack place pc rest e = elim (texts_tell token (codes ";")) [
    | inl same ↦
        let p = bind_ok (finished at stack place) (λ q. let made : Piece × List Placed = (q, (at, token) ∷ tokens) in Ok made) (pc, rest) (rw same.0 at e) in
        subst Stops (pair_rest p.0 pc ((at, token) ∷ tokens) rest p.2) same.0
    | inr other ↦
        let s = bind_ok {A = State} (step labels at token stack place) (λ t. piece_at labels end tokens t.0 t.1) (pc, rest) (rw other.0 at e) in
        piece_stops tokens s.0.0 s.0.1 pc rest s.2
  ]

  -- ---- an entry

  -- what was read as an entry: its tokens, and what is left
  pub record EntryRead (e : Grant) (tokens rest : List Placed) : Type 0 where
    pub first : List Placed
    pub split : tokens ≡ first ++ rest
    pub is : IsEntryOf labels e first
    pub stops : Stops rest

  rights_some : (at : ℕ) (found : Option ℕ) (n : ℕ) → rights_at at found ≡ Ok n → found ≡ Some n
  rights_some at None n e = absurd cc
  rights_some at (Some m) n e = cc

  apart_from : (used rest : List Placed) (behind : ℕ) → (words used ≡ [] → ⊥) → eqb (first_place (used ++ rest) end) behind ≡ false → first_place used 0 ≢ behind
  apart_from [] rest behind some e same = some refl
  apart_from ((at, t) ∷ used) rest behind some e same = grind (arith, nat_tests)

  grant_parts : (n : ℕ) (p : Principal) (e : Grant) (ts us : List Placed) → (let x : Result (Grant × List Placed) TextFault = Ok (record { rights = n; who = p }, ts) in x) ≡ Ok (e, us) → (n ≡ e.rights) × (p ≡ e.who) × (ts ≡ us)
  grant_parts n p e ts us is =
      let same = ok_is TextFault (record { rights = n; who = p }, ts) (e, us) is in
      (ap (λ x. x.0.rights) same, ap (λ x. x.0.who) same, ap (λ x. x.1) same)

  read_found : (at : ℕ) (letters : List ℕ) (n : ℕ) (tokens rest : List Placed) (e : Grant) → AreRights n letters → eqb (first_place tokens end) (at + length letters) ≡ false →
      (piece_at labels end tokens [] (Operand First) >>= λ x. measured ENTRY_NODES (first_place tokens end) x.0 >>= λ p. let made : Grant × List Placed = (record { rights = n; who = p }, x.1) in Ok made) ≡ Ok (e, rest) → EntryRead e ((at, letters) ∷ tokens) rest
  read_found at letters n tokens rest e are other is =
      let x = bind_ok _ _ (e, rest) is in
      let p = bind_ok _ _ (e, rest) x.2 in
      let parts = grant_parts n p.0 e x.0.1 rest p.2 in
      let start : WasRead labels [] (Operand First) [] = record { outer = []; inner = []; is_open = refl; is_place = refl; whole = refl } in
      let read = found labels end tokens [] (Operand First) [] x.0.0 x.0.1 start x.1 in
      let w = read.is.written in
      let size = measured-ok ENTRY_NODES (first_place tokens end) (meaning w) p.0 (ap (measured ENTRY_NODES (first_place tokens end)) (sym read.is.piece) ∙ p.1) in
      let who : meaning w ≡ e.who = size.0 ∙ parts.1 in
      let split : tokens ≡ read.used ++ rest = read.split ∙ ap (λ l. read.used ++ l) parts.2 in
      let letters_are : letters ≡ rights_text e.rights = are.2 ∙ ap rights_text parts.0 in
      let away = apart_from read.used rest (at + length letters) (λ none. has_tokens w (sym read.is.tokens ∙ none)) (subst (λ (l : List Placed). eqb (first_place l end) (at + length letters) ≡ false) split other) in
      record {
        first = (at, letters) ∷ read.used;
        split = ap (λ l. (at, letters) ∷ l) split;
        is = record {
          at = at;
          body = read.used;
          written = w;
          whole = ap (λ l. (at, l) ∷ read.used) letters_are;
          some = subst (λ (k : ℕ). 0 < k) parts.0 are.0;
          rights = subst (λ (k : ℕ). k < 16) parts.0 are.1;
          apart = subst (λ (l : List ℕ). first_place read.used 0 ≢ at + length l) letters_are away;
          proper = read.is.proper;
          means = who;
          spelled = read.is.tokens;
          nodes_fit = subst (λ (q : Principal). node_count q ≤ ENTRY_NODES) who size.1;
          depth_fits = subst (λ (q : Principal). depth q ≤ MAX_DEPTH) who size.2;
        };
        stops = subst Stops parts.2 (piece_stops tokens [] (Operand First) x.0.0 x.0.1 x.1);
      }

  who_found : (at : ℕ) (letters : List ℕ) (n : ℕ) (tokens rest : List Placed) (e : Grant) → AreRights n letters → who_at labels end n (at + length letters) tokens ≡ Ok (e, rest) → EntryRead e ((at, letters) ∷ tokens) rest
  unfolding who_at
  who_found at letters n tokens rest e are is = elim (eqb_tells (first_place tokens end) (at + length letters)) [
    | inl here ↦ (let f = rw here.0 at is in absurd cc)
    | inr other ↦ read_found at letters n tokens rest e are other.0 (rw other.0 at is)
  ]

  pub entry_found : (tokens rest : List Placed) (e : Grant) → entry_at labels end tokens ≡ Ok (e, rest) → EntryRead e tokens rest
  unfolding entry_at
  entry_found [] rest e is = absurd cc
  entry_found ((at, letters) ∷ tokens) rest e is =
      let n = bind_ok _ _ (e, rest) is in
      who_found at letters n.0 tokens rest e (rights_of-ok letters n.0 (rights_some at (rights_of letters) n.0 n.1)) n.2

  -- ---- entries

  behind_is : (at behind : ℕ) → at ≢ behind → eqb at behind ≡ false
  behind_is at behind other = grind (arith, nat_tests)

  no_first : (labels' : Labels) (w : Written) → words [] ≡ tokens_of w → ⊥
  no_first labels' w e = has_tokens w (sym e)

  stop_read : (w : Written) (pc : Piece) (rest : List Placed) → Stops rest → piece_at labels end rest [] (standing w pc) ≡ Ok (pc, rest)
  unfolding piece_at
  stop_read w pc [] stops = rw (finished-standing end w pc) refl
  stop_read w pc ((at, t) ∷ rest) stops = rw (stops, finished-standing at w pc) refl

  who_again : (e : Grant) (behind : ℕ) (w : Written) (body rest : List Placed) → IsProper labels w → meaning w ≡ e.who → words body ≡ tokens_of w →
      first_place body 0 ≢ behind → node_count e.who ≤ ENTRY_NODES → depth e.who ≤ MAX_DEPTH → Stops rest → who_at labels end e.rights behind (body ++ rest) ≡ Ok (e, rest)
  unfolding who_at
  who_again e behind w [] rest proper means spelled apart nodes levels stops = absurd (no_first labels w spelled)
  who_again e behind w ((at, t) ∷ body) rest proper means spelled apart nodes levels stops =
      let other = behind_is at behind apart in
      let read = (reads labels end w proper).1 ((at, t) ∷ body) rest [] spelled ∙ stop_read w (piece_of (meaning w)) rest stops in
      let size = ap (λ q. measured ENTRY_NODES at (piece_of q)) means ∙ measured-fits ENTRY_NODES at e.who nodes levels in
      rw (other, read, size) refl

  pub entry_again : (e : Grant) (first rest : List Placed) → IsEntryOf labels e first → Stops rest → entry_at labels end (first ++ rest) ≡ Ok (e, rest)
  unfolding entry_at
  entry_again e first rest is stops =
      let letters = rights_text e.rights in
      let again = rights_again e.rights is.rights is.some in
      let who = who_again e (is.at + length letters) is.written is.body rest is.proper is.means is.spelled is.apart is.nodes_fit is.depth_fits stops in
      ap (λ l. entry_at labels end (l ++ rest)) is.whole
      ∙ ap (λ r. rights_at is.at r >>= λ n. who_at labels end n (is.at + length letters) (is.body ++ rest)) again.0
      ∙ who

  pub entries_again : (e : Grant) (rest : List Grant) (n : ℕ) (before : List Grant) (tokens : List Placed) → length (e ∷ rest) ≤ n → AreEntriesOf labels e rest tokens → entries_at labels end n before tokens ≡ Ok (before ++ e ∷ rest)
  unfolding entries_at
  entries_again e rest zero before tokens le is = absurd (omega (arith, le))
  entries_again e [] (suc n) before tokens le is =
      ap (λ l. entry_at labels end l >>= λ x. further (entries_at labels end n) (before ++ x.0 ∷ []) x.1) (sym (append-nil tokens))
      ∙ ap (λ r. r >>= λ x. further (entries_at labels end n) (before ++ x.0 ∷ []) x.1) (entry_again e tokens [] is tt)
  entries_again e (f ∷ rest) (suc n) before tokens le (first, at, later, split, is, more) =
      ap (λ l. entry_at labels end l >>= λ x. further (entries_at labels end n) (before ++ x.0 ∷ []) x.1) split
      ∙ ap (λ r. r >>= λ x. further (entries_at labels end n) (before ++ x.0 ∷ []) x.1) (entry_again e first ((at, codes ";") ∷ later) is refl)
      ∙ entries_again f rest n (before ++ e ∷ []) later (omega (arith, le)) more ∙ ap (λ l. Ok l) (append_assoc before (e ∷ []) (f ∷ rest))

  -- what is read after the entries before
  pub record EntriesRead (n : ℕ) (before : List Grant) (tokens : List Placed) (entries : List Grant) : Type 0 where
    pub e : Grant
    pub more : List Grant
    pub whole : entries ≡ before ++ e ∷ more
    pub within : length (e ∷ more) ≤ n
    pub are : AreEntriesOf labels e more tokens

  entries_is : (x y : List Grant) → (let r : Result (List Grant) TextFault = Ok x in r) ≡ Ok y → y ≡ x
  entries_is x y e = cc

  semicolon_is : (t : List ℕ) → bytes_eq t (codes ";") ≡ true → t ≡ codes ";"
  semicolon_is t e = elim (texts_tell t (codes ";")) [
    | inl same ↦ same.1
    | inr other ↦ absurd (false≢true (sym other.0 ∙ e))
  ]

  further_more : (n : ℕ) (before : List Grant) (tokens : List Placed) (e : Grant) (at : ℕ) (t : List ℕ) (rest : List Placed) (entries : List Grant) → EntryRead e tokens ((at, t) ∷ rest) → t ≡ codes ";" → EntriesRead n (before ++ e ∷ []) rest entries → EntriesRead (suc n) before tokens entries
  further_more n before tokens e at t rest entries read semicolon next = record {
    e = e;
    more = next.e ∷ next.more;
    whole = next.whole ∙ append_assoc before (e ∷ []) (next.e ∷ next.more);
    within = omega (arith, next.within);
    are = (read.first, at, rest, read.split ∙ ap (λ x. read.first ++ (at, x) ∷ rest) semicolon, read.is, next.are);
  }

  further_found : (n : ℕ) (before : List Grant) (tokens : List Placed) (e : Grant) (rest : List Placed) (entries : List Grant) → EntryRead e tokens rest → further (entries_at labels end n) (before ++ e ∷ []) rest ≡ Ok entries →
      ((more : List Placed) → entries_at labels end n (before ++ e ∷ []) more ≡ Ok entries → EntriesRead n (before ++ e ∷ []) more entries) → EntriesRead (suc n) before tokens entries
  further_found n before tokens e [] entries read is more = record {
    e = e;
    more = [];
    whole = entries_is (before ++ e ∷ []) entries is;
    within = omega arith;
    are = subst (IsEntryOf labels e) (sym (read.split ∙ append-nil read.first)) read.is;
  }
  further_found n before tokens e ((at, t) ∷ rest) entries read is more = further_more n before tokens e at t rest entries read (semicolon_is t read.stops) (more rest is)

  pub entries_found : (n : ℕ) (before : List Grant) (tokens : List Placed) (entries : List Grant) → entries_at labels end n before tokens ≡ Ok entries → EntriesRead n before tokens entries
  unfolding entries_at
  entries_found zero before tokens entries e = absurd cc
  entries_found (suc n) before tokens entries e =
      let x = bind_ok _ _ entries e in
      further_found n before tokens x.0.0 x.0.1 entries (entry_found tokens x.0.1 x.0.0 x.1) x.2 (λ more. entries_found n (before ++ x.0.0 ∷ []) more entries)

-- ---- a list

list_by : (labels : Labels) (end : ℕ) (ts : List Placed) (entries : List Grant) → list_of labels end ts ≡ Ok entries → ((ts ≡ []) × (entries ≡ [])) ⊎ (entries_at labels end MAX_ENTRIES [] ts ≡ Ok entries)
list_by labels end [] entries e = inl (refl, entries_is labels end [] entries e)
list_by labels end (t ∷ ts) entries e = inr e

by_list : (labels : Labels) (end : ℕ) (ts : List Placed) (entries : List Grant) → entries_at labels end MAX_ENTRIES [] ts ≡ Ok entries → list_of labels end ts ≡ Ok entries
by_list labels end [] entries e = absurd (none_listed labels end entries e)
by_list labels end (t ∷ ts) entries e = e

-- what is read is a list
pub list_is_meant : (labels : Labels) (bytes : List ℕ) (entries : List Grant) → list_in labels bytes ≡ Ok entries → IsListText labels entries bytes
unfolding list_in
list_is_meant labels bytes entries e = elim (list_by labels (length bytes) (tokens_from bytes 0) entries e) [
  | inl none ↦ subst (λ (l : List Grant). IsListText labels l bytes) (sym none.1) none.0
  | inr some ↦
      let read = entries_found labels (length bytes) MAX_ENTRIES [] (tokens_from bytes 0) entries some in
      subst (λ (l : List Grant). IsListText labels l bytes) (sym read.whole) (read.within, read.are)
]

-- what is a list is read
pub list_is_read : (labels : Labels) (bytes : List ℕ) (entries : List Grant) → IsListText labels entries bytes → list_in labels bytes ≡ Ok entries
unfolding list_in
list_is_read labels bytes [] is = ap (list_of labels (length bytes)) is
list_is_read labels bytes (e ∷ rest) is = by_list labels (length bytes) (tokens_from bytes 0) (e ∷ rest) (entries_again labels (length bytes) e rest MAX_ENTRIES [] (tokens_from bytes 0) is.0 is.1)
