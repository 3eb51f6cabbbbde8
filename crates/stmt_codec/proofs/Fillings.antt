-- A body that fills a part of the bytes: what is read there is spelled so, and what is spelled there is read.
use Rattle.std.proofs.Common.{◌≡◌, ℕ, ◌+◌, ◌-◌, ◌<◌, ◌≤◌, true, false, cond, ltb, List, [], ◌++◌, length, take, drop, Ok, Err, refl, sym, ap, subst, ◌∙◌, append-nil, arith, inl, inr, length-append, length-drop}
use Rattle.std.proofs.lemmas.Bool.{ltb-false, le-ltb, lt-ltb}
use Rattle.std.proofs.lemmas.List.{take_at, drop-take, drop_all, length-take-le, take-append-le}
use Rattle.byte_fields.specs.Steps.{◌>>=◌, bytes_at}
use Rattle.byte_fields.proofs.Cuts.{Cuts, cuts_bytes}
use Rattle.byte_fields.proofs.FieldLaws.{IsBytes-take, TakesAt, TakesAt-within, bytes_takes, bytes_again}
use Rattle.byte_fields.proofs.ReaderLaws.{Reads}
use Rattle.byte_fields.proofs.Results.{bind_ok, refused_ok}
use Rattle.byte_fields.specs.declared.fault.FormatFault.{FormatFault}
use Rattle.stmt_codec.specs.Certificates.{Certificate, FitsBody, body_spelling}
use Rattle.stmt_codec.specs.Reading.{body_at}
use Rattle.stmt_codec.proofs.Bodies.{body_takes, body_again}
use Rattle.byte_fields.specs.declared.fault.FormatFault.TheVariants.{Malformed, NoMemory}
use Rattle.byte_fields.specs.Formats.{ended, IsFaultIn}
use Rattle.stmt_codec.specs.Lists.{body_filling}

module _ (bytes : List ℕ) (at n : ℕ) (le : at ≤ length bytes) (text : List ℕ × ℕ) (there : bytes_at (ended bytes) n bytes at ≡ Ok text) where
  end_is : text.1 ≡ at + n
  end_is = let t = bytes_takes (ended bytes) n bytes at text there in omega (arith, t.0.end_is, t.1)

  end_in : text.1 ≤ length bytes
  end_in = TakesAt-within bytes at text.0 text.1 le (bytes_takes (ended bytes) n bytes at text there).0

  fits_in : at + n ≤ length bytes
  fits_in = omega (arith, end_is, end_in)

  pub begins_within_front : at ≤ length (take (at + n) bytes)
  begins_within_front = omega (arith, length-take-le (at + n) bytes fits_in)

  -- a fault in the front is one in all of the bytes
  pub in_front : (f : FormatFault) → IsFaultIn (take (at + n) bytes) f → IsFaultIn bytes f
  in_front (Malformed o) is = omega (arith, is, length-take-le (at + n) bytes fits_in, fits_in)
  in_front NoMemory is = absurd is

  pub front_within : at ≤ length (take text.1 bytes)
  front_within = omega (arith, end_is, end_in, length-take-le text.1 bytes end_in)

  pub body_refused : (f : FormatFault) → body_at (take text.1 bytes) at ≡ Err f → body_filling bytes n at ≡ Err f
  unfolding body_filling
  body_refused f e =
      let refused : body_at (take (at + n) bytes) at ≡ Err f = ap (λ (k : ℕ). body_at (take k bytes) at) (sym end_is) ∙ e in
      rw (there, refused) refl

  pub body_left : (c : Certificate) (next : ℕ) → body_at (take text.1 bytes) at ≡ Ok (c, next) → next < text.1 → body_filling bytes n at ≡ Err (Malformed next)
  unfolding body_filling
  body_left c next e lt =
      let read : body_at (take (at + n) bytes) at ≡ Ok (c, next) = ap (λ (k : ℕ). body_at (take k bytes) at) (sym end_is) ∙ e in
      let left : ltb next (at + n) ≡ true = lt-ltb _ _ (omega (arith, lt, end_is)) in
      rw (there, read, left) refl

  pub body_read : (c : Certificate) (next : ℕ) → body_at (take text.1 bytes) at ≡ Ok (c, next) → text.1 ≤ next → body_filling bytes n at ≡ Ok (c, text.1)
  unfolding body_filling
  body_read c next e past =
      let read : body_at (take (at + n) bytes) at ≡ Ok (c, next) = ap (λ (k : ℕ). body_at (take k bytes) at) (sym end_is) ∙ e in
      let none : ltb next (at + n) ≡ false = le-ltb _ _ (omega (arith, past, end_is)) in
      rw (there, read, none) refl

-- ---- what is read, and what is spelled

abbrev pub Fills : ℕ → Certificate → Type 0
Fills n c = FitsBody c × (length (body_spelling c) ≡ n)

-- the text of so many bytes is what stands at the offset in their front
filled : (bytes : List ℕ) (at n : ℕ) (text rest : List ℕ) → length text ≡ n → drop at bytes ≡ text ++ rest → text ≡ drop at (take (at + n) bytes)
filled bytes at n text rest len e = sym (take_at text rest n len) ∙ ap (take n) (sym e) ∙ sym (drop-take at n bytes)

pub reads_filling : (bytes : List ℕ) (n : ℕ) → Reads bytes (body_filling bytes n) body_spelling (Fills n)
unfolding body_filling
reads_filling bytes n = record {
  takes = λ ok at x le e.
      let a = bind_ok (bytes_at (ended bytes) n bytes at) (λ text. body_at (take (at + n) bytes) at >>= λ c. cond (ltb c.1 (at + n)) (Err (Malformed c.1)) (Ok (c.0, text.1))) x e in
      let b = bind_ok (body_at (take (at + n) bytes) at) (λ c. cond (ltb c.1 (at + n)) (Err (Malformed c.1)) (Ok (c.0, a.0.1))) x a.2 in
      let read : body_at (take (at + n) bytes) at ≡ Ok b.0 = b.1 in
      let made : Certificate × ℕ = (b.0.0, a.0.1) in
      let g = refused_ok (ltb b.0.1 (at + n)) (Malformed b.0.1) made x b.2 in
      let t = bytes_takes (ended bytes) n bytes at a.0 a.1 in
      let fits_in : at + n ≤ length bytes = omega (arith, TakesAt-within bytes at a.0.0 a.0.1 le t.0, t.0.end_is, t.1) in
      let front = take (at + n) bytes in
      let len : length front ≡ at + n = length-take-le (at + n) bytes fits_in in
      let w = body_takes front at b.0 (omega (arith, len)) (IsBytes-take (at + n) bytes ok) read in
      let past : at + n ≤ b.0.1 = ltb-false _ _ g.0 in
      let whole : drop at front ≡ body_spelling b.0.0 = w.0.parts ∙ ap (λ (l : List ℕ). body_spelling b.0.0 ++ l) (drop_all b.0.1 front (omega (arith, past, len))) ∙ append-nil (body_spelling b.0.0) in
      let text : a.0.0 ≡ body_spelling b.0.0 = filled bytes at n a.0.0 (drop a.0.1 bytes) t.1 t.0.parts ∙ whole in
      subst (λ (y : Certificate × ℕ). TakesAt bytes at (body_spelling y.0) y.1 × Fills n y.0) g.1
      (subst (λ (l : List ℕ). TakesAt bytes at l a.0.1) text t.0, (record { numbers = w.1; limits = w.2 }, ap length (sym text) ∙ t.1));
  again = λ at c rest fits e.
      let len : length bytes - at ≡ length (body_spelling c) + length rest = sym (length-drop at bytes) ∙ ap length e ∙ length-append (body_spelling c) rest in
      let fits_in : at + n ≤ length bytes = omega (arith, len, fits.1, some_bytes c) in
      let first = bytes_again (ended bytes) n bytes (body_spelling c) rest at fits.1 e in
      let front = take (at + n) bytes in
      let front_len : length front ≡ at + n = length-take-le (at + n) bytes fits_in in
      let text : drop at front ≡ body_spelling c ++ [] = sym (filled bytes at n (body_spelling c) rest fits.1 e) ∙ sym (append-nil (body_spelling c)) in
      let second = body_again front [] at c (omega (arith, front_len)) fits.0.numbers fits.0.limits text in
      let end : ltb (at + length (body_spelling c)) (at + n) ≡ false = le-ltb _ _ (omega (arith, fits.1)) in
      rw (first, second, end) (ap (λ (k : ℕ). Ok (c, at + k)) (sym fits.1));
}
  where
    some_bytes : (c : Certificate) → 0 < length (body_spelling c)
    some_bytes c = omega arith

-- where a body that fills a part of the bytes is cut, bytes are lacking
pub filling_cut : (front more : List ℕ) (n : ℕ) → Cuts front (ended front) (body_filling front n) (body_filling (front ++ more) n)
unfolding body_filling
filling_cut front more n = record {
  at_cut = λ at x le e.
      let a = bind_ok (bytes_at (ended (front ++ more)) n (front ++ more) at) (λ text. body_at (take (at + n) (front ++ more)) at >>= λ c. cond (ltb c.1 (at + n)) (Err (Malformed c.1)) (Ok (c.0, text.1))) x e in
      let b = bind_ok (body_at (take (at + n) (front ++ more)) at) (λ c. cond (ltb c.1 (at + n)) (Err (Malformed c.1)) (Ok (c.0, a.0.1))) x a.2 in
      let made : Certificate × ℕ = (b.0.0, a.0.1) in
      let g = refused_ok (ltb b.0.1 (at + n)) (Malformed b.0.1) made x b.2 in
      elim ((cuts_bytes (ended front) (ended (front ++ more)) front more n).at_cut at a.0 le a.1) [
        | inl there ↦
            let t = bytes_takes (ended front) n front at a.0 there.0 in
            let within : at + n ≤ length front = omega (arith, there.1, t.0.end_is, t.1) in
            let read : body_at (take (at + n) front) at ≡ Ok b.0 = ap (λ (l : List ℕ). body_at l at) (sym (take-append-le (at + n) front more within)) ∙ b.1 in
            inl (rw (there.0, read) b.2, subst (λ (y : Certificate × ℕ). y.1 ≤ length front) g.1 there.1)
        | inr lacking ↦ inr (rw lacking refl)
      ];
}
