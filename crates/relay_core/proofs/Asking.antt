-- What a payload asks for, and the reply to it.
use Rattle.std.proofs.Common.{◌≡◌, ◌⊎◌, ℕ, ◌<◌, ◌^◌, List, [], ◌∷◌, ◌++◌, drop, Result, Ok, Err, refl, ap, ◌∙◌, inl, inr}
use Rattle.std.specs.Prelude.{◌==◌, if◌then◌else◌}
use Rattle.std.specs.Int.{w32, to_be_bytes}
use Rattle.keyed_seal.specs.Keys.{Entries}
use Rattle.byte_fields.specs.Steps.{byte_at, mark_at, number_at}
use Rattle.byte_fields.proofs.Results.{bind_ok, bind_err, chosen_err}
use Rattle.byte_fields.proofs.FieldLaws.{IsBytes, byte_refused, mark_takes, mark_again, number_takes, number_again, number_refused, wide32}
use Rattle.frame_link.specs.declared.outside.RelayAnswer.{RelayAnswer}
use Rattle.frame_link.specs.declared.outside.RelayAnswer.TheVariants.{Resealed, Refused, NoMemory}
use Rattle.frame_link.specs.Relay.{Said, Gave, Refuses, IsSaid}
use Rattle.relay_core.specs.Messages.{asking, answering, lacking, Replies, is_said, is_lacking, is_no_asking}
use Rattle.relay_core.specs.Resealing.{resealed}
use Rattle.relay_core.specs.Asked.{asked_at, second_of, AnswersTo}

-- the payload asks for this node, and the certificate begins there
record IsAsked (payload : List ℕ) (x : ℕ × ℕ) : Type 0 where
  fits : x.0 < 2 ^ 32
  text : payload ≡ asking x.0 (drop x.1 payload)

asked_takes : (payload : List ℕ) (x : ℕ × ℕ) → IsBytes payload → asked_at payload ≡ Ok x → IsAsked payload x
unfolding asked_at
asked_takes payload x fits e =
    let a = bind_ok (mark_at 1 1 5 payload 0) (λ at. number_at 1 w32 payload at) x e in
    let m = mark_takes 1 1 5 payload 0 a.0 a.1 in
    let n = number_takes 1 w32 (2 ^ 32) wide32 payload a.0 x fits a.2 in
    record { fits = n.1; text = m.parts ∙ ap (λ (l : List ℕ). 5 ∷ l) n.0.parts }

mark_err : (payload : List ℕ) (f : ℕ) → mark_at 1 1 5 payload 0 ≡ Err f → f ≡ 1
unfolding mark_at
mark_err payload f e = elim (bind_err (byte_at 1 payload 0) (λ x. if x.0 == 5 then Ok x.1 else Err 1) f e) [
  | inl short ↦ let r = byte_refused 1 payload 0 f short in r.1
  | inr x ↦ let r = chosen_err (x.0.0 == 5) 1 f x.0.1 x.2 in r.1
]

asked_err : (payload : List ℕ) (f : ℕ) → asked_at payload ≡ Err f → f ≡ 1
unfolding asked_at
asked_err payload f e = elim (bind_err (mark_at 1 1 5 payload 0) (λ at. number_at 1 w32 payload at) f e) [
  | inl short ↦ mark_err payload f short
  | inr at ↦ let r = number_refused 1 w32 payload at.0 f at.2 in r.1
]

asked_again : (payload certificate : List ℕ) (node : ℕ) → node < 2 ^ 32 → payload ≡ asking node certificate → asked_at payload ≡ Ok (node, 5)
unfolding asked_at
asked_again payload certificate node lt e =
    let m = mark_again {E = ℕ} 1 1 5 payload (to_be_bytes w32 node ++ certificate) 0 e in
    let n = number_again {E = ℕ} 1 w32 (2 ^ 32) wide32 payload certificate 1 node lt (ap (drop 1) e) in
    rw (m, n) refl

-- the bytes of an answer are what is said, or want of memory
spelled : (said : Said) (answer : RelayAnswer) (out reply : List ℕ) → IsSaid said answer out → reply ≡ 6 ∷ second_of answer ∷ out → (reply ≡ answering said) ⊎ (reply ≡ lacking)
spelled (Gave bytes) Resealed out reply is e = inl (e ∙ ap (λ (l : List ℕ). 6 ∷ 0 ∷ l) is)
spelled (Gave bytes) (Refused code) out reply is e = absurd is
spelled (Gave bytes) NoMemory out reply is e = inr (e ∙ ap (λ (l : List ℕ). 6 ∷ 11 ∷ l) is)
spelled (Refuses c) Resealed out reply is e = absurd is
spelled (Refuses c) (Refused code) out reply is e = inl (e ∙ ap (λ (l : List ℕ). 6 ∷ code ∷ l) is.1 ∙ ap (λ (k : ℕ). 6 ∷ k ∷ []) is.0)
spelled (Refuses c) NoMemory out reply is e = inr (e ∙ ap (λ (l : List ℕ). 6 ∷ 11 ∷ l) is)

module _ (issuers nodes : Entries) (payload reply : List ℕ) (answer : RelayAnswer) (out : List ℕ) (fits : IsBytes payload) (spells : reply ≡ 6 ∷ second_of answer ∷ out) where
  read_as : (r : Result (ℕ × ℕ) ℕ) → asked_at payload ≡ r → AnswersTo issuers nodes payload r answer out → Replies issuers nodes payload reply
  read_as (Ok x) e is =
      let a = asked_takes payload x fits e in
      elim (spelled (resealed issuers nodes x.0 (drop x.1 payload)) answer out reply is spells) [
        | inl said ↦ is_said x.0 (drop x.1 payload) a.fits a.text said
        | inr lacks ↦ is_lacking x.0 (drop x.1 payload) a.fits a.text lacks
      ]
  read_as (Err f) e is =
      let code : answer ≡ Refused 1 = is.0 ∙ ap Refused (asked_err payload f e) in
      is_no_asking (λ node certificate lt asks. absurd (cc (e, asked_again payload certificate node lt asks)))
      (spells ∙ ap (λ (a : RelayAnswer). 6 ∷ second_of a ∷ out) code ∙ ap (λ (l : List ℕ). 6 ∷ 1 ∷ l) is.1)

  pub replies : AnswersTo issuers nodes payload (asked_at payload) answer out → Replies issuers nodes payload reply
  replies is = read_as (asked_at payload) refl is
