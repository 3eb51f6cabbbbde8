-- What a domain opens was sealed so, what was sealed so opens, and why bytes do not open.
use Rattle.std.proofs.Common.{◌≡◌, ◌≢◌, ◌⊎◌, ℕ, ◌+◌, ◌-◌, ◌≤◌, Bool, true, false, cond, ltb, List, [], ◌∷◌, ◌++◌, length, take, drop, Option, Some, None, Result, Ok, Err, refl, sym, ap, subst, ◌∙◌, append_assoc, arith, inl, inr, length-append, length-drop}
use Rattle.std.specs.Prelude.{nat_lt}
use Rattle.std.specs.Str.{bytes_eq}
use Rattle.std.proofs.lemmas.Bool.{ltb-false, le-ltb, false_from_ne_true}
use Rattle.std.proofs.lemmas.List.{take_at, drop_at}
use Rattle.std.proofs.lemmas.Slice.Eq.{bytes_eq-Decides}
use Rattle.keyed_seal.specs.Tag.{tag_of}
use Rattle.keyed_seal.proofs.Tags.{length-tag_of}
use Rattle.byte_fields.specs.declared.fault.FormatFault.{FormatFault}
use Rattle.byte_fields.specs.declared.fault.FormatFault.TheVariants as bodies
use Rattle.byte_fields.specs.Steps.{◌>>=◌, with_fault}
use Rattle.byte_fields.proofs.FieldLaws.{IsBytes, TakesAt, TakesAt-then, TakesAt-within, behind}
use Rattle.byte_fields.proofs.Results.{bind_ok, bind_err, ok_is, err_is, chosen, chosen_ok, chosen_err, refused_ok, refused_err, with_fault_ok, with_fault_err}
use Rattle.stmt_codec.specs.Certificates.{Certificate, body_spelling, HasBodySpelling, IsWithinLimits}
use Rattle.stmt_codec.specs.Reading.{body_at}
use Rattle.stmt_codec.proofs.Bodies.{body_takes, body_again}
use Rattle.sealed_cert.specs.declared.fault.SealFault.{SealFault}
use Rattle.sealed_cert.specs.declared.fault.SealFault.TheVariants.{Malformed, UnknownIssuer, BadSeal, WrongKind}
use Rattle.sealed_cert.specs.declared.fault.SealFault.TheVariants as seals
use Rattle.sealed_cert.specs.Refusals as opens
use Rattle.sealed_cert.specs.Refusals.{body_and_tag_at, checked, ends_in_tag, is_tagged}
use Rattle.sealed_cert.specs.Seals.{SpellsAfter, text_after}
use Rattle.relay_core.specs.Resealing.{IsRelayed}
use Rattle.relay_path.specs.declared.opening.HopFault.{HopFault}
use Rattle.relay_path.specs.declared.opening.HopFault.TheVariants.{Refused, NoMemory}
use Rattle.relay_path.specs.Carrying.{front_of, Presents}
use Rattle.relay_path.specs.Domains.{DomainKnows}
use Rattle.relay_path.specs.Hopping.{OpensHere, sender_key, unknown_sender}
use Rattle.relay_path.specs.Opening.{key_or, opened_here, seen_as, visited_at}
use Rattle.relay_path.proofs.Front.{IsFront, NoFront, relayed, formless, visited_takes, visited_again, visited_refused, relayed_stops}

-- ---- the body, and the tag behind it

tag_takes : (bytes : List ℕ) (at end : ℕ) → ends_in_tag bytes at ≡ Ok end → (at ≡ end) × (length (drop at bytes) ≡ 32)
unfolding ends_in_tag
tag_takes bytes at end e =
    elim (chosen (nat_lt (length bytes - at) 32) (Err (Malformed (length bytes))) (cond (nat_lt (at + 32) (length bytes)) (Err (Malformed (at + 32))) (Ok at)) (Ok end) e) [
      | inl short ↦ absurd (cc (short.1))
      | inr long ↦
          let g = refused_ok (nat_lt (at + 32) (length bytes)) (Malformed (at + 32)) at end long.1 in
          let least : 32 ≤ length bytes - at = ltb-false _ _ long.0 in
          let most : length bytes ≤ at + 32 = ltb-false _ _ g.0 in
          (g.1, omega (arith, length-drop at bytes, least, most))
    ]

tag_again : (bytes : List ℕ) (at : ℕ) → length (drop at bytes) ≡ 32 → ends_in_tag bytes at ≡ Ok at
unfolding ends_in_tag
tag_again bytes at len =
    let least : nat_lt (length bytes - at) 32 ≡ false = le-ltb _ _ (omega (arith, length-drop at bytes, len)) in
    let most : nat_lt (at + 32) (length bytes) ≡ false = le-ltb _ _ (omega (arith, length-drop at bytes, len)) in
    rw (least, most) refl

-- c stands behind a front that ends at an offset, and 32 bytes behind it
record IsBehind (bytes : List ℕ) (at : ℕ) (c : Certificate) (end : ℕ) : Type 0 where
  pub taken : TakesAt bytes at (body_spelling c) end
  pub numbers : HasBodySpelling c
  pub limits : IsWithinLimits c
  pub tag : length (drop end bytes) ≡ 32

behind_takes : (bytes : List ℕ) (at : ℕ) (x : Certificate × ℕ) → IsBytes bytes → at ≤ length bytes → body_and_tag_at bytes at ≡ Ok x → IsBehind bytes at x.0 x.1
unfolding body_and_tag_at
behind_takes bytes at x fits le e =
    let body = bind_ok (with_fault opens.seen_as (body_at bytes at)) (λ body. ends_in_tag bytes body.1 >>= λ end. Ok (body.0, end)) x e in
    let end = bind_ok (ends_in_tag bytes body.0.1) (λ end. Ok (body.0.0, end)) x body.2 in
    let t = body_takes bytes at body.0 le fits (with_fault_ok opens.seen_as (body_at bytes at) body.0 body.1) in
    let g = tag_takes bytes body.0.1 end.0 end.1 in
    let made : Certificate × ℕ = (body.0.0, end.0) in
    subst (λ (y : Certificate × ℕ). IsBehind bytes at y.0 y.1) (ok_is SealFault made x end.2)
    (record {
      taken = subst (TakesAt bytes at (body_spelling body.0.0)) g.0 t.0;
      numbers = t.1;
      limits = t.2;
      tag = ap (λ (n : ℕ). length (drop n bytes)) (sym g.0) ∙ g.1;
    })

behind_again : (bytes tag : List ℕ) (at : ℕ) (c : Certificate) → at ≤ length bytes → HasBodySpelling c → IsWithinLimits c → drop at bytes ≡ body_spelling c ++ tag → length tag ≡ 32
    → body_and_tag_at bytes at ≡ Ok (c, at + length (body_spelling c))
unfolding body_and_tag_at
behind_again bytes tag at c le numbers limits e whole =
    let body = body_again bytes tag at c le numbers limits e in
    let left : length (drop (at + length (body_spelling c)) bytes) ≡ 32 = ap length (behind bytes (body_spelling c) tag at e) ∙ whole in
    rw (body, tag_again bytes (at + length (body_spelling c)) left) refl

-- a fault of the form of bytes
abbrev IsForm : HopFault → Type 0
IsForm f = (f ≡ Refused 1) ⊎ (f ≡ NoMemory)

body_form : (d : FormatFault) → IsForm (seen_as (opens.seen_as d))
body_form (bodies.Malformed o) = inl refl
body_form bodies.NoMemory = inr refl

behind_refused : (bytes : List ℕ) (at : ℕ) (g : SealFault) → body_and_tag_at bytes at ≡ Err g → IsForm (seen_as g)
unfolding body_and_tag_at ends_in_tag
behind_refused bytes at g e = elim (bind_err (with_fault opens.seen_as (body_at bytes at)) (λ body. ends_in_tag bytes body.1 >>= λ end. Ok (body.0, end)) g e) [
  | inl none ↦ let h = with_fault_err opens.seen_as (body_at bytes at) g none in subst (λ (s : SealFault). IsForm (seen_as s)) (sym h.2) (body_form h.0)
  | inr body ↦ elim (bind_err (ends_in_tag bytes body.0.1) (λ end. Ok (body.0.0, end)) g body.2) [
    | inl untagged ↦ elim (chosen (nat_lt (length bytes - body.0.1) 32) (Err (Malformed (length bytes))) (cond (nat_lt (body.0.1 + 32) (length bytes)) (Err (Malformed (body.0.1 + 32))) (Ok body.0.1)) (Err g) untagged) [
      | inl short ↦ subst (λ (s : SealFault). IsForm (seen_as s)) (err_is ℕ (Malformed (length bytes)) g short.1) (inl refl)
      | inr long ↦ subst (λ (s : SealFault). IsForm (seen_as s)) (sym (refused_err (nat_lt (body.0.1 + 32) (length bytes)) (Malformed (body.0.1 + 32)) g body.0.1 long.1).1) (inl refl)
    ]
    | inr end ↦ absurd (cc (end.2))
  ]
]

-- ---- the certificate after its front, whatever its tag

-- what is read of it: where the front ends, where the body does, and the tag
record IsRead (visited bytes : List ℕ) (c : Certificate) (tag : List ℕ) (end : ℕ) : Type 0 where
  pub front : visited_at bytes ≡ Ok (visited, length (front_of visited))
  pub body : body_and_tag_at bytes (length (front_of visited)) ≡ Ok (c, end)
  pub tag_is : drop end bytes ≡ tag
  pub text_is : take end bytes ≡ text_after (front_of visited) c

read_again : (visited bytes : List ℕ) (c : Certificate) (tag : List ℕ) → Presents visited bytes c tag → IsRead visited bytes c tag (length (text_after (front_of visited) c))
read_again visited bytes c tag is =
    let s = is.spelled in
    let front : List ℕ = front_of visited in
    let grouped : bytes ≡ front ++ (body_spelling c ++ tag) = s.text ∙ append_assoc front (body_spelling c) tag in
    let start : drop (length front) bytes ≡ body_spelling c ++ tag = ap (drop (length front)) grouped ∙ drop_at front (body_spelling c ++ tag) (length front) refl in
    let within : length front ≤ length bytes = omega (arith, ap length grouped, length-append front (body_spelling c ++ tag)) in
    let place : length front + length (body_spelling c) ≡ length (text_after front c) = sym (length-append front (body_spelling c)) in
    record {
      front = visited_again bytes visited (body_spelling c ++ tag) is.few is.numbers grouped;
      body = behind_again bytes tag (length front) c within s.numbers s.limits start s.whole_tag ∙ ap (λ (n : ℕ). Ok (c, n)) place;
      tag_is = ap (drop (length (text_after front c))) s.text ∙ drop_at (text_after front c) tag (length (text_after front c)) refl;
      text_is = ap (take (length (text_after front c))) s.text ∙ take_at (text_after front c) tag (length (text_after front c)) refl;
    }

presents : (bytes visited : List ℕ) (c : Certificate) (at end : ℕ) → IsFront bytes visited at → IsBehind bytes at c end → Presents visited bytes c (drop end bytes) × (take end bytes ≡ text_after (front_of visited) c)
presents bytes visited c at end front is =
    let whole = TakesAt-then bytes 0 (front_of visited) at (body_spelling c) end front.taken is.taken in (
      record {
        few = front.few;
        numbers = front.numbers;
        spelled = record { text = whole.parts; whole_tag = is.tag; numbers = is.numbers; limits = is.limits };
      },
      ap (take end) whole.parts ∙ take_at (text_after (front_of visited) c) (drop end bytes) end (omega (arith, whole.end_is)),
    )

-- ---- by the key of who sealed it

-- what comes after the key
abbrev by_key : List ℕ → List ℕ → Certificate × ℕ → List ℕ → Result (List ℕ × Certificate) HopFault
by_key bytes visited x key = with_fault seen_as (checked key bytes x) >>= λ c. Ok (visited, c)

-- what comes after the certificate
abbrev by_sender : DomainKnows → List ℕ → List ℕ → Certificate × ℕ → Result (List ℕ × Certificate) HopFault
by_sender d bytes visited x = key_or (unknown_sender visited) (sender_key d visited x.0.issuer) >>= by_key bytes visited x

-- what comes after the front
abbrev by_front : DomainKnows → List ℕ → List ℕ × ℕ → Result (List ℕ × Certificate) HopFault
by_front d bytes front = with_fault seen_as (body_and_tag_at bytes front.1) >>= by_sender d bytes front.0

-- what is presented comes to who sealed it
pub presented_at : (d : DomainKnows) (visited bytes : List ℕ) (c : Certificate) (tag : List ℕ) → Presents visited bytes c tag
    → opened_here d bytes ≡ by_sender d bytes visited (c, length (text_after (front_of visited) c))
unfolding opened_here
presented_at d visited bytes c tag is = let r = read_again visited bytes c tag is in rw (r.front, r.body) refl

pub nobody_known : (d : DomainKnows) (visited bytes : List ℕ) (c : Certificate) (tag : List ℕ) → Presents visited bytes c tag → sender_key d visited c.issuer ≡ None
    → opened_here d bytes ≡ Err (Refused (unknown_sender visited))
nobody_known d visited bytes c tag is none = presented_at d visited bytes c tag is ∙ rw none refl

pub badly_sealed : (d : DomainKnows) (visited bytes : List ℕ) (c : Certificate) (tag key : List ℕ) → Presents visited bytes c tag → sender_key d visited c.issuer ≡ Some key
    → tag ≢ tag_of key (text_after (front_of visited) c) → opened_here d bytes ≡ Err (Refused 3)
badly_sealed d visited bytes c tag key is known other =
    let r = read_again visited bytes c tag is in
    let end = length (text_after (front_of visited) c) in
    let untagged : is_tagged key bytes end ≡ false =
    false_from_ne_true (is_tagged key bytes end) (λ yes. other (sym r.tag_is ∙ (bytes_eq-Decides _ _).0 yes ∙ ap (tag_of key) r.text_is)) in
    presented_at d visited bytes c tag is ∙ rw (known, untagged) refl

pub opened_again : (d : DomainKnows) (visited bytes : List ℕ) (c : Certificate) → OpensHere d visited bytes c → opened_here d bytes ≡ Ok (visited, c)
opened_again d visited bytes c is =
    let text : List ℕ = text_after (front_of visited) c in
    let r = read_again visited bytes c (tag_of is.key text) is.presented in
    let tagged : is_tagged is.key bytes (length text) ≡ true = (bytes_eq-Decides _ _).1 (r.tag_is ∙ ap (tag_of is.key) (sym r.text_is)) in
    presented_at d visited bytes c (tag_of is.key text) is.presented ∙ rw (is.known, tagged) refl

key_is : (code : ℕ) (o : Option (List ℕ)) (key : List ℕ) → key_or code o ≡ Ok key → o ≡ Some key
key_is code (Some k) key e = cc
key_is code None key e = absurd cc

no_key : (code : ℕ) (o : Option (List ℕ)) (f : HopFault) → key_or code o ≡ Err f → (o ≡ None) × (f ≡ Refused code)
no_key code (Some k) f e = absurd cc
no_key code None f e = (refl, cc)

pub opened_takes : (d : DomainKnows) (bytes : List ℕ) (x : List ℕ × Certificate) → IsBytes bytes → opened_here d bytes ≡ Ok x → OpensHere d x.0 bytes x.1
unfolding opened_here
opened_takes d bytes x fits e =
    let front = bind_ok (visited_at bytes) (by_front d bytes) x e in
    let body = bind_ok (with_fault seen_as (body_and_tag_at bytes front.0.1)) (by_sender d bytes front.0.0) x front.2 in
    let key = bind_ok (key_or (unknown_sender front.0.0) (sender_key d front.0.0 body.0.0.issuer)) (by_key bytes front.0.0 body.0) x body.2 in
    let c = bind_ok (with_fault seen_as (checked key.0 bytes body.0)) (λ c. Ok (front.0.0, c)) x key.2 in
    let f = visited_takes bytes front.0 fits front.1 in
    let le = TakesAt-within bytes 0 (front_of front.0.0) front.0.1 (omega arith) f.taken in
    let b = behind_takes bytes front.0.1 body.0 fits le (with_fault_ok seen_as (body_and_tag_at bytes front.0.1) body.0 body.1) in
    let p = presents bytes front.0.0 body.0.0 front.0.1 body.0.1 f b in
    let g = chosen_ok (is_tagged key.0 bytes body.0.1) BadSeal body.0.0 c.0 (with_fault_ok seen_as (checked key.0 bytes body.0) c.0 c.1) in
    let tag : drop body.0.1 bytes ≡ tag_of key.0 (text_after (front_of front.0.0) body.0.0) = (bytes_eq-Decides _ _).0 g.0 ∙ ap (tag_of key.0) p.1 in
    let here : OpensHere d front.0.0 bytes body.0.0 = record {
      key = key.0;
      known = key_is (unknown_sender front.0.0) (sender_key d front.0.0 body.0.0.issuer) key.0 key.1;
      presented = subst (Presents front.0.0 bytes body.0.0) tag p.0;
    } in
    let made : List ℕ × Certificate = (front.0.0, c.0) in
    subst (λ (y : List ℕ × Certificate). OpensHere d y.0 bytes y.1) (ok_is HopFault made x c.2) (subst (OpensHere d front.0.0 bytes) g.1 here)

-- ---- why bytes do not open

pub data Unopened (d : DomainKnows) (bytes : List ℕ) (f : HopFault) : Type 0 where
  of_relay : IsRelayed bytes → f ≡ Refused 4 → Unopened d bytes f
  of_no_form : ¬ IsRelayed bytes → ((visited : List ℕ) (c : Certificate) (tag : List ℕ) → ¬ Presents visited bytes c tag) → (f ≡ Refused 1) ⊎ (f ≡ NoMemory) → Unopened d bytes f
  of_nobody : (visited : List ℕ) (c : Certificate) (tag : List ℕ) → Presents visited bytes c tag → sender_key d visited c.issuer ≡ None → f ≡ Refused (unknown_sender visited) → Unopened d bytes f
  of_other : (visited : List ℕ) (c : Certificate) (tag key : List ℕ) → Presents visited bytes c tag → sender_key d visited c.issuer ≡ Some key → tag ≢ tag_of key (text_after (front_of visited) c) → f ≡ Refused 3 → Unopened d bytes f

-- where the front or the body is refused, nothing is presented
no_front : (bytes : List ℕ) (f : HopFault) → visited_at bytes ≡ Err f → (visited : List ℕ) (c : Certificate) (tag : List ℕ) → ¬ Presents visited bytes c tag
no_front bytes f e = λ visited c tag is. let r = read_again visited bytes c tag is in absurd (cc (e, r.front))

no_body : (bytes : List ℕ) (front : List ℕ × ℕ) (g : SealFault) → visited_at bytes ≡ Ok front → body_and_tag_at bytes front.1 ≡ Err g → (visited : List ℕ) (c : Certificate) (tag : List ℕ) → ¬ Presents visited bytes c tag
no_body bytes front g first e = λ visited c tag is.
    let r = read_again visited bytes c tag is in
    let same : front ≡ (visited, length (front_of visited)) = ok_is HopFault front (visited, length (front_of visited)) (sym first ∙ r.front) in
    let there : body_and_tag_at bytes front.1 ≡ Ok (c, length (text_after (front_of visited) c)) = ap (λ (p : List ℕ × ℕ). body_and_tag_at bytes p.1) same ∙ r.body in
    absurd (cc (e, there))

form_only : (bytes : List ℕ) (f : HopFault) → visited_at bytes ≡ Err f → f ≡ Refused 1 → ¬ IsRelayed bytes
form_only bytes f e is = λ relayed_is. let r = relayed_stops bytes relayed_is in absurd (cc (e, is, r))

not_relayed : (bytes : List ℕ) (front : List ℕ × ℕ) → visited_at bytes ≡ Ok front → ¬ IsRelayed bytes
not_relayed bytes front e = λ relayed_is. let r = relayed_stops bytes relayed_is in absurd (cc (e, r))

unopened_front : (d : DomainKnows) (bytes : List ℕ) (f : HopFault) → visited_at bytes ≡ Err f → NoFront bytes f → Unopened d bytes f
unopened_front d bytes f e (relayed is code) = of_relay is code
unopened_front d bytes f e (formless code) = of_no_form (form_only bytes f e code) (no_front bytes f e) (inl code)

unopened_body : (d : DomainKnows) (bytes : List ℕ) (f : HopFault) (front : List ℕ × ℕ) → visited_at bytes ≡ Ok front → with_fault seen_as (body_and_tag_at bytes front.1) ≡ Err f → Unopened d bytes f
unopened_body d bytes f front first e =
    let h = with_fault_err seen_as (body_and_tag_at bytes front.1) f e in
    of_no_form (not_relayed bytes front first) (no_body bytes front h.0 first h.1) (subst IsForm (sym h.2) (behind_refused bytes front.1 h.0 h.1))

bad_seal : (key bytes : List ℕ) (x : Certificate × ℕ) (f : HopFault) → with_fault seen_as (checked key bytes x) ≡ Err f → (is_tagged key bytes x.1 ≡ false) × (f ≡ Refused 3)
bad_seal key bytes x f e =
    let h = with_fault_err seen_as (checked key bytes x) f e in
    let g = chosen_err (is_tagged key bytes x.1) BadSeal h.0 x.0 h.1 in
    (g.0, h.2 ∙ ap seen_as g.1)

unopened_seal : (d : DomainKnows) (bytes visited : List ℕ) (x : Certificate × ℕ) (f : HopFault) → Presents visited bytes x.0 (drop x.1 bytes) → take x.1 bytes ≡ text_after (front_of visited) x.0
    → by_sender d bytes visited x ≡ Err f → Unopened d bytes f
unopened_seal d bytes visited x f is text e = elim (bind_err (key_or (unknown_sender visited) (sender_key d visited x.0.issuer)) (by_key bytes visited x) f e) [
  | inl none ↦ let n = no_key (unknown_sender visited) (sender_key d visited x.0.issuer) f none in of_nobody visited x.0 (drop x.1 bytes) is n.0 n.1
  | inr key ↦ elim (bind_err (with_fault seen_as (checked key.0 bytes x)) (λ c. Ok (visited, c)) f key.2) [
    | inl bad ↦
        let b = bad_seal key.0 bytes x f bad in
        of_other visited x.0 (drop x.1 bytes) key.0 is (key_is (unknown_sender visited) (sender_key d visited x.0.issuer) key.0 key.1)
        (λ same. absurd (cc (b.0, (bytes_eq-Decides (drop x.1 bytes) (tag_of key.0 (take x.1 bytes))).1 (same ∙ ap (tag_of key.0) (sym text))))) b.1
    | inr c ↦ absurd (cc (c.2))
  ]
]

pub opened_refused : (d : DomainKnows) (bytes : List ℕ) (f : HopFault) → IsBytes bytes → opened_here d bytes ≡ Err f → Unopened d bytes f
unfolding opened_here
opened_refused d bytes f fits e = elim (bind_err (visited_at bytes) (by_front d bytes) f e) [
  | inl none ↦ unopened_front d bytes f none (visited_refused bytes f none)
  | inr front ↦ elim (bind_err (with_fault seen_as (body_and_tag_at bytes front.0.1)) (by_sender d bytes front.0.0) f front.2) [
    | inl none ↦ unopened_body d bytes f front.0 front.1 none
    | inr body ↦
        let t = visited_takes bytes front.0 fits front.1 in
        let le = TakesAt-within bytes 0 (front_of front.0.0) front.0.1 (omega arith) t.taken in
        let b = behind_takes bytes front.0.1 body.0 fits le (with_fault_ok seen_as (body_and_tag_at bytes front.0.1) body.0 body.1) in
        let p = presents bytes front.0.0 body.0.0 front.0.1 body.0.1 t b in
        unopened_seal d bytes front.0.0 body.0 f p.0 p.1 body.2
  ]
]

-- bytes of a relay's seal do not open
pub relayed_unopened : (d : DomainKnows) (bytes : List ℕ) → IsRelayed bytes → opened_here d bytes ≡ Err (Refused 4)
unfolding opened_here
relayed_unopened d bytes is = rw (relayed_stops bytes is) refl
