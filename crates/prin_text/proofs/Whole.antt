-- What is read is meant, and what is meant is read.
use Rattle.std.proofs.Common.{◌≡◌, ℕ, ◌≤◌, true, cond, leb, List, [], ◌∷◌, ◌++◌, length, Ok, Err, refl, sym, ◌∙◌, ap, subst, inl, inr, arith}
use Rattle.std.proofs.lemmas.Bool.Decides.{nat_tests, leb_tells}
use Rattle.std.proofs.lemmas.List.{append-nil}
use Rattle.prin_term.specs.declared.limits.TheConstants.{CERT_NODES, MAX_DEPTH}
use Rattle.prin_term.specs.Principal.{Principal, node_count, depth}
use Rattle.prin_term.specs.Refusal.{FitsLimits}
use Rattle.byte_fields.specs.Steps.{◌>>=◌}
use Rattle.byte_fields.proofs.Results.{bind_ok, ok_is}
use Rattle.prin_text.specs.declared.fault.TextCause.TheVariants.{TooLarge}
use Rattle.prin_text.specs.declared.fault.TextFault.{TextFault}
use Rattle.prin_text.specs.declared.fault.TextFault.TheVariants.{Bad}
use Rattle.prin_text.specs.Labels.{Labels, AreLabels}
use Rattle.prin_text.specs.Meaning.{Written, Atom, Group, Pair, RoleOf, meaning, tokens_of, IsProper, IsSpaced, IsTextWithin}
use Rattle.prin_text.specs.Pieces.{Piece, Built, Deep}
use Rattle.prin_text.specs.Printing.{principal_text}
use Rattle.prin_text.specs.Reading.{First, Operand, alone, finished, measured, piece_at, piece_in, principal_in}
use Rattle.prin_text.specs.Tokens.{Placed, first_place, tokens_from}
use Rattle.prin_text.proofs.Again.{words, reads, standing}
use Rattle.prin_text.proofs.Found.{IsWritten, WasRead, found}
use Rattle.prin_text.proofs.Pieced.{piece_of}
use Rattle.prin_text.proofs.Printed.{printed_text}
use Rattle.prin_text.proofs.Spacing.{spaced_words, words_spaced}

-- nothing is left behind a principal that stands alone
pub alone-ok : (pc q : Piece) (rest : List Placed) → alone (pc, rest) ≡ Ok q → (pc ≡ q) × (rest ≡ [])
alone-ok pc q [] e = (ok_is TextFault pc q e, refl)
alone-ok pc q (t ∷ rest) e = absurd cc

-- a piece that is measured is within the limits
pub measured-ok : (nodes at : ℕ) (p q : Principal) → measured nodes at (piece_of p) ≡ Ok q → (p ≡ q) × (node_count p ≤ nodes) × (depth p ≤ MAX_DEPTH)
measured-ok nodes at p q e = elim (leb_tells (depth p) MAX_DEPTH) [
  | inl fits ↦
      let built : measured nodes at (Built p (depth p)) ≡ Ok q = sym (ap (λ b. measured nodes at (cond b (Built p (depth p)) Deep)) fits.0) ∙ e in
      elim (leb_tells (node_count p) nodes) [
        | inl few ↦ (ok_is TextFault p q (sym (ap (λ b. cond b (Ok p) (Err (Bad at TooLarge))) few.0) ∙ built), few.1, fits.1)
        | inr many ↦ absurd (cc (sym (ap (λ b. cond b (Ok p) (Err (Bad at TooLarge))) many.0) ∙ built))
      ]
  | inr over ↦ absurd (cc (sym (ap (λ b. measured nodes at (cond b (Built p (depth p)) Deep)) over.0) ∙ e))
]

pub measured-fits : (nodes at : ℕ) (p : Principal) → node_count p ≤ nodes → depth p ≤ MAX_DEPTH → measured nodes at (piece_of p) ≡ Ok p
measured-fits nodes at p few fits =
    let shallow : leb (depth p) MAX_DEPTH ≡ true = grind (arith, nat_tests) in
    let small : leb (node_count p) nodes ≡ true = grind (arith, nat_tests) in
    ap (λ b. measured nodes at (cond b (Built p (depth p)) Deep)) shallow ∙ ap (λ b. cond b (Ok p) (Err (Bad at TooLarge))) small

-- the tokens that stand in bytes are those of something written
pub tokens_spaced : (bytes : List ℕ) → IsSpaced (words (tokens_from bytes 0)) bytes
unfolding tokens_from
tokens_spaced bytes = words_spaced bytes [] 0 refl

pub spaced_tokens : (ts : List (List ℕ)) (bytes : List ℕ) → IsSpaced ts bytes → words (tokens_from bytes 0) ≡ ts
unfolding tokens_from
spaced_tokens ts bytes spaced = spaced_words ts bytes 0 spaced

-- what all of the tokens are was written
pub piece_in-ok : (labels : Labels) (end : ℕ) (ts : List Placed) (pc : Piece) → piece_in labels end ts ≡ Ok pc → IsWritten labels pc (words ts)
piece_in-ok labels end ts pc e =
    let x = bind_ok _ _ pc e in
    let left = alone-ok x.0.0 pc x.0.1 x.2 in
    let start : WasRead labels [] (Operand First) [] = record { outer = []; inner = []; is_open = refl; is_place = refl; whole = refl } in
    let read = found labels end ts [] (Operand First) [] x.0.0 x.0.1 start x.1 in
    let used : ts ≡ read.used = read.split ∙ ap (λ l. read.used ++ l) left.1 ∙ append-nil read.used in
    subst (λ (l : List Placed). IsWritten labels pc (words l)) (sym used) (subst (λ (q : Piece). IsWritten labels q (words read.used)) left.0 read.is)

-- what is read is meant
pub read_is_meant : (labels : Labels) (bytes : List ℕ) (p : Principal) → principal_in labels bytes ≡ Ok p → IsTextWithin labels p bytes
unfolding principal_in
read_is_meant labels bytes p e =
    let ts = tokens_from bytes 0 in
    let at = first_place ts (length bytes) in
    let x = bind_ok _ _ p e in
    let is = piece_in-ok labels (length bytes) ts x.0 x.1 in
    let w = is.written in
    let limits = measured-ok CERT_NODES at (meaning w) p (ap (measured CERT_NODES at) (sym is.piece) ∙ x.2) in
    record {
      text = record {
        written = w;
        proper = is.proper;
        means = limits.0;
        spaced = subst (λ (l : List (List ℕ)). IsSpaced l bytes) is.tokens (tokens_spaced bytes);
      };
      nodes_fit = subst (λ (q : Principal). node_count q ≤ CERT_NODES) limits.0 limits.1;
      depth_fits = subst (λ (q : Principal). depth q ≤ MAX_DEPTH) limits.0 limits.2;
    }

-- where something written ends, it is whole
pub finished-standing : (at : ℕ) (w : Written) (pc : Piece) → finished at [] (standing w pc) ≡ Ok pc
finished-standing at (Atom p word) pc = refl
finished-standing at (Group w) pc = refl
finished-standing at (Pair kind a b) pc = refl
finished-standing at (RoleOf a r word) pc = refl

pub piece_at-end : (labels : Labels) (end : ℕ) (w : Written) (pc : Piece) → piece_at labels end [] [] (standing w pc) ≡ Ok (pc, [])
unfolding piece_at
piece_at-end labels end w pc = rw (finished-standing end w pc) refl

-- what was written is all of its tokens
pub piece_in-written : (labels : Labels) (end : ℕ) (ts : List Placed) (w : Written) → IsProper labels w → words ts ≡ tokens_of w → piece_in labels end ts ≡ Ok (piece_of (meaning w))
piece_in-written labels end ts w proper same =
    ap (λ r. r >>= alone) (ap (λ l. piece_at labels end l [] (Operand First)) (sym (append-nil ts)) ∙ (reads labels end w proper).1 ts [] [] same ∙ piece_at-end labels end w (piece_of (meaning w)))

-- what is meant is read
pub meant_is_read : (labels : Labels) (bytes : List ℕ) (p : Principal) → IsTextWithin labels p bytes → principal_in labels bytes ≡ Ok p
unfolding principal_in
meant_is_read labels bytes p is =
    let ts = tokens_from bytes 0 in
    let at = first_place ts (length bytes) in
    let w = is.text.written in
    let read = piece_in-written labels (length bytes) ts w is.text.proper (spaced_tokens (tokens_of w) bytes is.text.spaced) in
    ap (λ r. r >>= measured CERT_NODES at) read
    ∙ ap (λ q. measured CERT_NODES at (piece_of q)) is.text.means
    ∙ measured-fits CERT_NODES at p is.nodes_fit is.depth_fits

-- what is printed is read again
pub printed_is_read : (labels : Labels) (p : Principal) → AreLabels labels → FitsLimits CERT_NODES p → principal_in labels (principal_text labels p) ≡ Ok p
printed_is_read labels p are fits = meant_is_read labels (principal_text labels p) p (record {
  text = printed_text labels are p fits.numbers;
  nodes_fit = fits.nodes_fit;
  depth_fits = fits.depth_fits;
})
