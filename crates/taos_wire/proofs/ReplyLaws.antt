-- What is read as a reply is spelled so, and what is spelled so is read.
use Rattle.std.proofs.Common.{◌≡◌, ℕ, zero, suc, ◌+◌, ◌^◌, ◌<◌, ◌≤◌, true, false, cond, ltb, List, [], ◌∷◌, ◌++◌, length, drop, Option, Some, None, Result, Ok, Err, refl, sym, ap, subst, ◌∙◌, append_assoc, append-nil, arith, length-append}
use Rattle.std.specs.Prelude.{All, IfOk, MatchResult, replicate}
use Rattle.std.proofs.lemmas.Bool.{ltb-false, le-ltb, lt-ltb}
use Rattle.std.proofs.lemmas.List.{drop_all}
use Rattle.std.proofs.lemmas.List.Elements.{All-nil, All-cons}
use Rattle.keyed_seal.proofs.Tags.{length-tag_of, bytes-tag_of}
use Rattle.byte_fields.specs.Steps.{IsByte, Gives}
use Rattle.byte_fields.proofs.FieldLaws.{IsBytes}
use Rattle.byte_fields.proofs.ReaderLaws.{Reads, reads_followed, reads_made}
use Rattle.byte_fields.proofs.Results.{bind_ok, ok_is, refused_ok, gives_found, gives_only}
use Rattle.byte_fields.specs.declared.fault.FormatFault.{FormatFault as WireFault}
use Rattle.byte_fields.specs.declared.fault.FormatFault.TheVariants as faults
use Rattle.taos_wire.specs.declared.reply.Reply as code
use Rattle.taos_wire.specs.Request.{IsTag}
use Rattle.taos_wire.specs.Reply.{Reply, answered_bytes, status_of, fields_of, reply_text, FitsReply, SpellsReply, seal_of, sent, spelling}
use Rattle.taos_wire.specs.ReplyReading.{reply_at, reply_of}
use Rattle.taos_wire.specs.View.{reply}
use Rattle.taos_wire.proofs.Operations.{reads_tag}
use Rattle.taos_wire.proofs.ReplyFields.{reads_answered, reads_status}

-- the channel, the number and the reply
abbrev pub Answer : Type 0
Answer = ℕ × ℕ × Reply

abbrev pub answer : ℕ → ℕ → Reply → Answer
answer channel seq r = (channel, seq, r)

-- the same with a tag
abbrev pub Tagged : Type 0
Tagged = Answer × List ℕ

unfoldable pub tagged_bytes : Tagged → List ℕ
tagged_bytes x = reply_text x.0.0 x.0.1 x.0.2 ++ x.1

abbrev pub FitsTagged : Tagged → Type 0
FitsTagged x = ((x.0.0 < 2 ^ 32) × (x.0.1 < 2 ^ 64)) × (FitsReply x.0.2 × IsTag x.1)

text_in_fields : (channel seq : ℕ) (r : Reply) (tag : List ℕ) → answered_bytes channel seq ++ ((status_of r ∷ fields_of r) ++ tag) ≡ tagged_bytes ((channel, seq, r), tag)
unfolding tagged_bytes reply_text
text_in_fields channel seq r tag = sym (append_assoc (answered_bytes channel seq) (status_of r ∷ fields_of r) tag)

pub reads_reply : (bytes : List ℕ) → Reads bytes (reply_at bytes) tagged_bytes FitsTagged
unfolding reply_at
reads_reply bytes =
    reads_made (λ (x : (ℕ × ℕ) × (Reply × List ℕ)). ((x.0.0, x.0.1, x.1.0), x.1.1))
    (λ (x : Tagged). ((x.0.0, x.0.1), (x.0.2, x.1)))
    tagged_bytes FitsTagged
    (reads_followed (reads_answered bytes) (λ _ _. reads_followed (reads_status bytes) (λ _ _. reads_tag bytes)))
    (λ x is. ((is.0, is.1), text_in_fields x.0.0 x.0.1 x.1.0 x.1.1))
    (λ x is. ((is.0, is.1), sym (text_in_fields x.0.0 x.0.1 x.0.2 x.1), refl))

spells_of : (x : Tagged) (bytes : List ℕ) → FitsTagged x → bytes ≡ tagged_bytes x → SpellsReply x.0.0 x.0.1 x.0.2 bytes
unfolding tagged_bytes
spells_of x bytes fits e = record { channel_fits = fits.0.0; seq_fits = fits.0.1; limits = fits.1.0; tag = x.1; is_tag = fits.1.1; text = e }

-- what is read is spelled
pub reply_takes : (bytes : List ℕ) → IsBytes bytes → (x : Answer) → reply_of bytes ≡ Ok x → SpellsReply x.0 x.1 x.2 bytes
unfolding reply_of
reply_takes bytes ok r e =
    let x = bind_ok (reply_at bytes 0) (λ x. cond (ltb x.1 (length bytes)) (Err (faults.Malformed x.1)) (Ok x.0.0)) r e in
    let t = (reads_reply bytes).takes ok 0 x.0 (omega arith) x.1 in
    let g = refused_ok (ltb x.0.1 (length bytes)) (faults.Malformed x.0.1) x.0.0.0 r x.2 in
    let past : length bytes ≤ x.0.1 = ltb-false _ _ g.0 in
    let nothing : drop x.0.1 bytes ≡ [] = drop_all x.0.1 bytes past in
    let whole : bytes ≡ tagged_bytes x.0.0 = t.0.parts ∙ ap (λ (l : List ℕ). tagged_bytes x.0.0 ++ l) nothing ∙ append-nil (tagged_bytes x.0.0) in
    subst (λ (y : Answer). SpellsReply y.0 y.1 y.2 bytes) g.1 (spells_of x.0.0 bytes t.1 whole)

-- a spelling is read up to its end, whatever follows
module _ (channel seq : ℕ) (r : Reply) where
  abbrev pub tagged : List ℕ → Tagged
  tagged tag = (answer channel seq r, tag)

  pub fits_tagged : (bytes : List ℕ) (is : SpellsReply channel seq r bytes) → FitsTagged (tagged is.tag)
  fits_tagged bytes is = ((is.channel_fits, is.seq_fits), (is.limits, is.is_tag))

  pub text_tagged : (bytes : List ℕ) (is : SpellsReply channel seq r bytes) → bytes ≡ tagged_bytes (tagged is.tag)
  unfolding tagged_bytes
  text_tagged bytes is = is.text

  pub reply_in : (bytes rest front : List ℕ) (is : SpellsReply channel seq r front) → bytes ≡ front ++ rest → reply_at bytes 0 ≡ Ok (tagged is.tag, 0 + length front)
  reply_in bytes rest front is e =
      let x : Tagged = tagged is.tag in
      let same : front ≡ tagged_bytes x = text_tagged front is in
      let text : bytes ≡ tagged_bytes x ++ rest = e ∙ ap (λ (l : List ℕ). l ++ rest) same in
      (reads_reply bytes).again 0 x rest (fits_tagged front is) text ∙ ap (λ (l : List ℕ). Ok (x, 0 + length l)) (sym same)

  -- what is spelled is read
  pub reply_again : (bytes : List ℕ) → SpellsReply channel seq r bytes → reply_of bytes ≡ Ok (answer channel seq r)
  unfolding reply_of
  reply_again bytes is =
      let read = reply_in bytes [] bytes is (sym (append-nil bytes)) in
      let end : ltb (0 + length bytes) (length bytes) ≡ false = le-ltb _ _ (omega arith) in
      rw (read, end) refl

  -- bytes behind a spelling are refused at the first of them
  pub longer_refused : (bytes more : List ℕ) → SpellsReply channel seq r bytes → 0 < length more → reply_of (bytes ++ more) ≡ Err (faults.Malformed (length bytes))
  unfolding reply_of
  longer_refused bytes more is some =
      let read = reply_in (bytes ++ more) more bytes is refl in
      let end : ltb (0 + length bytes) (length (bytes ++ more)) ≡ true = lt-ltb _ _ (omega (arith, some, length-append bytes more)) in
      let place : 0 + length bytes ≡ length bytes = omega arith in
      rw (read, end, place) refl

module _ (c d n m : ℕ) (q r : Reply) where
  -- bytes spell one reply at most
  pub spelled_once : (bytes : List ℕ) → SpellsReply c n q bytes → SpellsReply d m r bytes → (c ≡ d) × (n ≡ m) × (q ≡ r)
  spelled_once bytes is_q is_r =
      let same : answer c n q ≡ answer d m r = ok_is WireFault (answer c n q) (answer d m r) (sym (reply_again c n q bytes is_q) ∙ reply_again d m r bytes is_r) in
      (ap (λ (x : Answer). x.0) same, ap (λ (x : Answer). x.1) same, ap (λ (x : Answer). x.2) same)

  -- a spelling does not begin another
  pub none_longer : (front more : List ℕ) → SpellsReply c n q front → SpellsReply d m r (front ++ more) → more ≡ []
  none_longer front more is_q is_r =
      let short = reply_in c n q (front ++ more) more front is_q refl in
      let long = reply_in d m r (front ++ more) [] (front ++ more) is_r (sym (append-nil (front ++ more))) in
      let one : Tagged × ℕ = (tagged c n q is_q.tag, 0 + length front) in
      let other : Tagged × ℕ = (tagged d m r is_r.tag, 0 + length (front ++ more)) in
      let ends : 0 + length front ≡ 0 + length (front ++ more) = ap (λ (x : Tagged × ℕ). x.1) (ok_is WireFault one other (sym short ∙ long)) in
      none_of more (omega (arith, ends, length-append front more))
    where
      none_of : (more : List ℕ) → length more ≤ 0 → more ≡ []
      none_of [] le = refl
      none_of (b ∷ more) le = absurd (omega (arith, le))

-- ---- seals

zeros : (n : ℕ) → All IsByte (replicate n 0)
zeros zero = All-nil IsByte
zeros (suc n) = All-cons IsByte 0 (replicate n 0) (omega arith) (zeros n)

seal_is_tag : (key : Option (List ℕ)) (text : List ℕ) → IsTag (seal_of key text)
seal_is_tag (Some key) text = (length-tag_of key text, bytes-tag_of key text)
seal_is_tag None text = (refl, zeros 32)

-- what is written is spelled
pub sent_spells : (key : Option (List ℕ)) (channel seq : ℕ) (r : Reply) → channel < 2 ^ 32 → seq < 2 ^ 64 → FitsReply r → SpellsReply channel seq r (spelling (sent key channel seq r))
sent_spells key channel seq r c n fits =
    record { channel_fits = c; seq_fits = n; limits = fits; tag = seal_of key (reply_text channel seq r); is_tag = seal_is_tag key (reply_text channel seq r); text = refl }

-- ---- what the whole reader answers

abbrev pub Read : Type 0
Read = ℕ × ℕ × code.Reply

abbrev pub seen : Read → Answer
seen x = (x.0, x.1, reply x.2)

pub is_found : (bytes : List ℕ) (r : Result Read WireFault) → IsBytes bytes → Gives faults.NoMemory seen r (reply_of bytes) → IfOk r (λ x. SpellsReply x.0 x.1 (reply x.2) bytes)
is_found bytes r fits given = gives_found (λ (y : Answer). SpellsReply y.0 y.1 y.2 bytes) faults.NoMemory seen r (reply_of bytes) given (λ y e. reply_takes bytes fits y e)

same_parts : (r : Result Read WireFault) (channel seq : ℕ) (q : Reply) → MatchResult r (λ x. seen x ≡ answer channel seq q) (λ f. f ≡ faults.NoMemory) → MatchResult r (λ x. (x.0 ≡ channel) × (x.1 ≡ seq) × (reply x.2 ≡ q)) (λ f. f ≡ faults.NoMemory)
same_parts (Ok x) channel seq q is = (ap (λ (y : Answer). y.0) is, ap (λ (y : Answer). y.1) is, ap (λ (y : Answer). y.2) is)
same_parts (Err f) channel seq q is = is

pub is_only : (bytes : List ℕ) (r : Result Read WireFault) → Gives faults.NoMemory seen r (reply_of bytes) → (channel seq : ℕ) (q : Reply) → SpellsReply channel seq q bytes → MatchResult r (λ x. (x.0 ≡ channel) × (x.1 ≡ seq) × (reply x.2 ≡ q)) (λ f. f ≡ faults.NoMemory)
is_only bytes r given channel seq q is = same_parts r channel seq q (gives_only faults.NoMemory seen r (reply_of bytes) (answer channel seq q) given (reply_again channel seq q bytes is))
