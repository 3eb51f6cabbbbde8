-- New bytes that the relay gave carry what was presented exactly where they are the same but for the kind and the tag.
use Rattle.std.proofs.Common.{◌≡◌, ℕ, suc, ◌+◌, ◌-◌, List, ◌∷◌, ◌++◌, length, take, drop, refl, sym, ap, ◌∙◌, arith, length-append, length-drop}
use Rattle.std.proofs.lemmas.List.{take_at, take-append-drop}
use Rattle.keyed_seal.specs.Tag.{tag_of}
use Rattle.keyed_seal.proofs.Tags.{length-tag_of}
use Rattle.stmt_codec.specs.Certificates.{Certificate, body_spelling}
use Rattle.sealed_cert.specs.Seals.{sealed_text, Opens}
use Rattle.relay_core.specs.Credentials.{IsIssued, IsResealed}
use Rattle.relay_core.specs.Presenting.{CarriesSame}

-- the body behind the kind, before 32 more
pub body_in : (kind : ℕ) (body tag bytes : List ℕ) → bytes ≡ kind ∷ body ++ tag → drop 1 (take (suc (length body)) bytes) ≡ body
body_in kind body tag bytes is = ap (λ (l : List ℕ). drop 1 (take (suc (length body)) l)) is ∙ take_at body tag (length body) refl

module _ (key new : List ℕ) (c : Certificate) (opens : Opens key new c) where
  abbrev body : List ℕ
  body = body_spelling c

  abbrev new_tag : List ℕ
  new_tag = tag_of key (sealed_text 2 c)

  pub long : length new ≡ suc (length body) + 32
  long = omega (arith, ap length opens.text, length-append body new_tag, length-tag_of key (sealed_text 2 c))

  pub before_tag : length new - 32 ≡ suc (length body)
  before_tag = omega (arith, long)

  pub new_body : drop 1 (take (length new - 32) new) ≡ body
  new_body = ap (λ (n : ℕ). drop 1 (take n new)) before_tag ∙ body_in 2 body new_tag new opens.text

  -- what is presented is that body under another kind
  pub same_body : (text : List ℕ) → IsIssued text → CarriesSame text new → IsResealed key text new c
  same_body text (rest, issued) (len, same) =
      let there : take (length body) rest ≡ body =
      ap (λ (l : List ℕ). drop 1 (take (suc (length body)) l)) (sym issued) ∙ ap (λ (n : ℕ). drop 1 (take n text)) (sym before_tag) ∙ same ∙ new_body in
      let whole : rest ≡ body ++ drop (length body) rest = sym (take-append-drop (length body) rest) ∙ ap (λ (l : List ℕ). l ++ drop (length body) rest) there in
      record {
        opens = opens;
        tag = drop (length body) rest;
        presented = record {
          text = issued ∙ ap (λ (l : List ℕ). 1 ∷ l) whole;
          whole_tag = omega (arith, length-drop (length body) rest, ap length issued, len, long);
          numbers = opens.numbers;
          limits = opens.limits;
        };
      }

  pub carries : (text : List ℕ) → IsResealed key text new c → CarriesSame text new
  carries text is =
      let len : length text ≡ length new = omega (arith, ap length is.presented.text, length-append body is.tag, is.presented.whole_tag, long) in
      (len, ap (λ (n : ℕ). drop 1 (take n text)) before_tag ∙ body_in 1 body is.tag text is.presented.text ∙ sym new_body)
