-- Readers with the faults of formats: each is refused at a place of its bytes, and where these are cut it reads what stands whole before the cut, or finds bytes lacking.
use Rattle.std.proofs.Common.{◌≡◌, ℕ, ◌<◌, ◌≤◌, Bool, cond, ltb, List, ◌++◌, length, Ok, Err, sym, subst, arith, inl, inr}
use Rattle.std.specs.Int.{Width, w16, w32, w64}
use Rattle.byte_fields.specs.declared.fault.FormatFault.{FormatFault}
use Rattle.byte_fields.specs.declared.fault.FormatFault.TheVariants.{Malformed}
use Rattle.byte_fields.specs.Formats.{FormatReader, ended, IsFaultIn, is_within, u8_in, u16_in, u32_in, u64_in, within}
use Rattle.byte_fields.specs.Readers.{followed, passing, made, given, counted}
use Rattle.byte_fields.specs.Steps.{◌>>=◌, bytes_at, counted_at, number_at, optional_at}
use Rattle.byte_fields.proofs.Cuts.{Cuts, cuts_followed, cuts_passing, cuts_made, cuts_given, cuts_if, cuts_counted, cuts_byte, cuts_bytes, cuts_number, cuts_counted_bytes, cuts_optional}
use Rattle.byte_fields.proofs.FormatPlaces.{here, lacking, u8_stays, text_stays}
use Rattle.byte_fields.proofs.Results.{bind_err, refused_err}
use Rattle.byte_fields.proofs.Staying.{Stays, stays_followed, stays_passing, stays_made, stays_given, stays_if, stays_counted, number_stays, counted_stays, optional_stays}

-- a reader of all bytes that are right, as `IsBytes` or any
pub record Form {A : Type 0} (Right : List ℕ → Type 0) (r : List ℕ → FormatReader A) : Type 0 where
  pub stays : (bytes : List ℕ) → Right bytes → Stays bytes (IsFaultIn bytes) (r bytes)
  pub cuts : (front more : List ℕ) → Right (front ++ more) → Cuts front (ended front) (r front) (r (front ++ more))

module _ {Right : List ℕ → Type 0} where
  -- what ends behind the cut is lacking before it
  pub lacks : {A : Type 0} {r : List ℕ → FormatReader A} → Form Right r → (front more : List ℕ) → Right (front ++ more) → (at : ℕ) (x : A × ℕ) → at ≤ length front → r (front ++ more) at ≡ Ok x → length front < x.1 → r front at ≡ Err (ended front)
  lacks form front more ok at x le e past =
      elim ((form.cuts front more ok).at_cut at x le e) [
        | inl read ↦ absurd (omega (arith, read.1, past))
        | inr lacking ↦ lacking
      ]

  -- what is read of all of the bytes is refused at a place of theirs
  pub whole_refused : {A B : Type 0} {r : List ℕ → FormatReader A} → Form Right r → (bytes : List ℕ) → Right bytes → (view : A → B) (f : FormatFault) → (r bytes 0 >>= λ x. cond (ltb x.1 (length bytes)) (Err (Malformed x.1)) (Ok (view x.0))) ≡ Err f → IsFaultIn bytes f
  whole_refused {A} {B} {r} form bytes ok view f e =
      elim (bind_err (r bytes 0) (λ x. cond (ltb x.1 (length bytes)) (Err (Malformed x.1)) (Ok (view x.0))) f e) [
        | inl none ↦ (form.stays bytes ok).refuses 0 f (omega arith) none
        | inr x ↦ subst (IsFaultIn bytes) (sym (refused_err (ltb x.0.1 (length bytes)) (Malformed x.0.1) f (view x.0.0) x.2).1) ((form.stays bytes ok).ends 0 x.0 (omega arith) x.1)
      ]

  -- ---- one behind another, a test, another value, items

  pub form_followed : {A B : Type 0} {first : List ℕ → FormatReader A} {second : List ℕ → A → FormatReader B} → Form Right first → ((a : A) → Form Right (λ bytes. second bytes a)) → Form Right (λ bytes. followed (first bytes) (second bytes))
  form_followed one two = record {
    stays = λ bytes ok. stays_followed (one.stays bytes ok) (λ a. (two a).stays bytes ok);
    cuts = λ front more ok. cuts_followed (one.cuts front more ok) (λ a. (two a).cuts front more ok);
  }

  pub form_passing : {A : Type 0} {r : List ℕ → FormatReader A} (test : A → Bool) → Form Right r → Form Right (λ bytes. passing test Malformed (r bytes))
  form_passing test one = record {
    stays = λ bytes ok. stays_passing test Malformed (one.stays bytes ok) (here bytes);
    cuts = λ front more ok. cuts_passing test Malformed (one.cuts front more ok);
  }

  pub form_made : {A B : Type 0} {r : List ℕ → FormatReader A} (f : A → B) → Form Right r → Form Right (λ bytes. made f (r bytes))
  form_made f one = record {
    stays = λ bytes ok. stays_made f (one.stays bytes ok);
    cuts = λ front more ok. cuts_made f (one.cuts front more ok);
  }

  pub form_given : {A : Type 0} (x : A) → Form Right (λ bytes. given x)
  form_given x = record {
    stays = λ bytes ok. stays_given bytes x;
    cuts = λ front more ok. cuts_given front (ended front) x;
  }

  pub form_if : {A : Type 0} {r other : List ℕ → FormatReader A} (test : Bool) → Form Right r → Form Right other → Form Right (λ bytes at. cond test (r bytes at) (other bytes at))
  form_if test one two = record {
    stays = λ bytes ok. stays_if test _ _ (one.stays bytes ok) (two.stays bytes ok);
    cuts = λ front more ok. cuts_if test _ _ _ _ (one.cuts front more ok) (two.cuts front more ok);
  }

  pub form_counted : {A : Type 0} {count : List ℕ → FormatReader ℕ} {item : List ℕ → List A → FormatReader A} (most : ℕ) → Form Right count → ((before : List A) → Form Right (λ bytes. item bytes before)) → Form Right (λ bytes. counted most Malformed (count bytes) (item bytes))
  form_counted most one step = record {
    stays = λ bytes ok. stays_counted most Malformed (one.stays bytes ok) (here bytes) (λ before. (step before).stays bytes ok);
    cuts = λ front more ok. cuts_counted most Malformed (one.cuts front more ok) (λ before. (step before).cuts front more ok);
  }

  pub form_optional : {A : Type 0} {item : List ℕ → FormatReader A} → Form Right item → Form Right (λ bytes at. optional_at (ended bytes) (Malformed at) (item bytes) bytes at)
  form_optional one = record {
    stays = λ bytes ok. optional_stays (IsFaultIn bytes) (ended bytes) (lacking bytes) bytes Malformed _ (one.stays bytes ok) (here bytes);
    cuts = λ front more ok. cuts_optional (ended front) (ended (front ++ more)) front more Malformed _ _ (one.cuts front more ok);
  }

  -- ---- fields

  pub form_u8 : Form Right u8_in
  form_u8 = record {
    stays = λ bytes ok. u8_stays bytes;
    cuts = λ front more ok. cuts_byte (ended front) (ended (front ++ more)) front more;
  }

  form_number : (w : Width) → Form Right (λ bytes. number_at (ended bytes) w bytes)
  form_number w = record {
    stays = λ bytes ok. number_stays (IsFaultIn bytes) (ended bytes) (lacking bytes) bytes w;
    cuts = λ front more ok. cuts_number (ended front) (ended (front ++ more)) front more w;
  }

  pub form_u16 : Form Right u16_in
  form_u16 = form_number w16

  pub form_u32 : Form Right u32_in
  form_u32 = form_number w32

  pub form_u64 : Form Right u64_in
  form_u64 = form_number w64

  pub form_within : (low high : ℕ) → Form Right (λ bytes. within low high (u8_in bytes))
  form_within low high = form_passing (is_within low high) form_u8

  pub form_bytes : (n : ℕ) → Form Right (λ bytes. bytes_at (ended bytes) n bytes)
  form_bytes n = record {
    stays = λ bytes ok. text_stays bytes n;
    cuts = λ front more ok. cuts_bytes (ended front) (ended (front ++ more)) front more n;
  }

  pub form_counted16 : Form Right (λ bytes. counted_at (ended bytes) w16 bytes)
  form_counted16 = record {
    stays = λ bytes ok. counted_stays (IsFaultIn bytes) (ended bytes) (lacking bytes) bytes w16;
    cuts = λ front more ok. cuts_counted_bytes (ended front) (ended (front ++ more)) front more w16;
  }
