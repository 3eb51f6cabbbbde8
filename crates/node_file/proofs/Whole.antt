-- What the whole reader answers, from what its parts give.
use Rattle.std.proofs.Common.{◌≡◌, ◌⊎◌, ℕ, ◌<◌, ◌≤◌, Bool, true, false, List, length, Result, Ok, Err, refl, sym, ap, subst, ◌∙◌, arith, inl, inr}
use Rattle.std.specs.Prelude.{IfOk, MatchResult}
use Rattle.prin_term.specs.declared.term.Anchor.{Anchor}
use Rattle.byte_fields.proofs.Results.{ok_is, with_fault_ok}
use Rattle.byte_fields.proofs.FieldLaws.{IsBytes}
use Rattle.stmt_codec.specs.Certificates.{Certificate}
use Rattle.node_file.specs.declared.opening.Opening as code
use Rattle.byte_fields.specs.declared.fault.FormatFault.{FormatFault}
use Rattle.byte_fields.specs.declared.fault.FormatFault.TheVariants as formats
use Rattle.prin_text.specs.declared.lines.fault.FileFault.{FileFault}
use Rattle.prin_text.specs.declared.lines.fault.FileFault.TheVariants.{NoMemory}
use Rattle.node_file.specs.declared.limits.TheConstants.{MAX_FILE}
use Rattle.node_file.specs.declared.opening.head.Head.{Head}
use Rattle.object_core.specs.Objects.{ObjectPlan}
use Rattle.node_file.specs.Opening.{Opening, no_texts}
use Rattle.byte_fields.specs.Formats.{IsFaultIn}
use Rattle.node_file.specs.OpeningReading.{head_at, channels_at, anchors_at, commons_at, objects_at, fields_at, at_byte, opening_of}
use Rattle.node_file.specs.NodeFile.{text_in}
use Rattle.node_file.specs.OpeningFile.{Means, is_binary, opening_in}
use Rattle.node_file.specs.OpeningView.{IsReadAs, Represents}
use Rattle.prin_text.specs.declared.lines.fault.FileCause.TheVariants.{Limit}
use Rattle.prin_text.specs.declared.lines.fault.FileFault.TheVariants.{Line}
use Rattle.node_file.proofs.Faults.{opening_refused}
use Rattle.byte_fields.specs.Steps.{with_fault}
use Rattle.std.proofs.lemmas.Bool.{cases_lt, le-ltb, lt-ltb}
use Rattle.node_file.proofs.OpeningLaws.{opening_takes, opening_again}

-- the fields, one behind another
pub fields_are : (bytes : List ℕ) (h : Head × ℕ) (cs : List (ℕ × List ℕ) × ℕ) (an : List Anchor × ℕ) (co : List Certificate × ℕ) (os : List ObjectPlan × ℕ)
    → head_at bytes 0 ≡ Ok h → channels_at bytes h.1 ≡ Ok cs → anchors_at bytes cs.1 ≡ Ok an → commons_at bytes h.0.relay_key an.1 ≡ Ok co → objects_at bytes co.1 ≡ Ok os
    → fields_at bytes 0 ≡ Ok (record { node = h.0.node; relay_key = h.0.relay_key; shards = h.0.shards; keep = h.0.keep; limit = h.0.limit; names = no_texts; channels = cs.0; anchors = an.0; commons = co.0; objects = os.0 }, os.1)
unfolding fields_at
fields_are bytes h cs an co os first second third fourth fifth = rw (first, second, third, fourth, fifth) refl

-- ---- the file

module _ (bytes : List ℕ) (short : length bytes ≤ MAX_FILE) where
  binary_file : is_binary bytes ≡ true → opening_in bytes ≡ with_fault at_byte (opening_of bytes)
  unfolding opening_in
  binary_file binary = rw (le-ltb MAX_FILE (length bytes) short, binary) refl

  text_file : is_binary bytes ≡ false → opening_in bytes ≡ text_in bytes
  unfolding opening_in
  text_file text = rw (le-ltb MAX_FILE (length bytes) short, text) refl

-- a file that is too long means nothing
long_file : (bytes : List ℕ) → MAX_FILE < length bytes → opening_in bytes ≡ Err (Line 0 Limit)
unfolding opening_in
long_file bytes long = rw (lt-ltb MAX_FILE (length bytes) long) refl

pub read_binary : (bytes : List ℕ) (r : Result code.Opening FileFault) → length bytes ≤ MAX_FILE → is_binary bytes ≡ true → IsReadAs r (with_fault at_byte (opening_of bytes)) → IsReadAs r (opening_in bytes)
read_binary bytes r short binary read = subst (IsReadAs r) (sym (binary_file bytes short binary)) read

pub read_text : (bytes : List ℕ) (r : Result code.Opening FileFault) → length bytes ≤ MAX_FILE → is_binary bytes ≡ false → IsReadAs r (text_in bytes) → IsReadAs r (opening_in bytes)
read_text bytes r short text read = subst (IsReadAs r) (sym (text_file bytes short text)) read

pub read_long : (bytes : List ℕ) → MAX_FILE < length bytes → IsReadAs (Err (Line 0 Limit)) (opening_in bytes)
read_long bytes long = inr (long_file bytes long)

by_form : (bytes : List ℕ) (o : Opening) (b : Bool) → is_binary bytes ≡ b → IsBytes bytes → length bytes ≤ MAX_FILE → opening_in bytes ≡ Ok o → Means o bytes
by_form bytes o true binary fits short e = inl (opening_takes bytes fits o (with_fault_ok at_byte (opening_of bytes) o (sym (binary_file bytes short binary) ∙ e)))
by_form bytes o false text fits short e = inr (text, sym (text_file bytes short text) ∙ e)

-- what a file means is meant by its bytes
pub meant : (bytes : List ℕ) (o : Opening) → IsBytes bytes → opening_in bytes ≡ Ok o → Means o bytes
meant bytes o fits e = elim (cases_lt MAX_FILE (length bytes)) [
  | inl long ↦ absurd (cc (e, long_file bytes long))
  | inr short ↦ by_form bytes o (is_binary bytes) refl fits (omega (arith, short)) e
]

-- and the other way
pub meant_again : (bytes : List ℕ) (o : Opening) → length bytes ≤ MAX_FILE → Means o bytes → opening_in bytes ≡ Ok o
meant_again bytes o short (inl is) = binary_file bytes short (ap is_binary is.1) ∙ ap (with_fault at_byte) (opening_again bytes o is)
meant_again bytes o short (inr is) = text_file bytes short is.0 ∙ is.1

pub is_found : (bytes : List ℕ) (r : Result code.Opening FileFault) → IsBytes bytes → IsReadAs r (opening_in bytes) → IfOk r (λ x. (o : Opening) × Means o bytes × Represents x o)
is_found bytes (Ok x) fits agrees = (agrees.0, meant bytes agrees.0 fits agrees.1, agrees.2)
is_found bytes (Err e) fits agrees = tt

pub is_only : (bytes : List ℕ) (r : Result code.Opening FileFault) → IsReadAs r (opening_in bytes) → (o : Opening) → Means o bytes → length bytes ≤ MAX_FILE → MatchResult r (λ x. Represents x o) (λ f. f ≡ NoMemory)
is_only bytes (Ok x) agrees o is short =
    subst (λ (o : Opening). Represents x o) (ok_is FileFault agrees.0 o (sym agrees.1 ∙ meant_again bytes o short is)) agrees.2
is_only bytes (Err e) (inl want) o is short = want
is_only bytes (Err e) (inr read) o is short = absurd (cc (read, meant_again bytes o short is))

-- a fault of the binary form stands at a place of the file
pub placed_in : (bytes : List ℕ) (f : FormatFault) (offset : ℕ) → f ≡ formats.Malformed offset → IsBytes bytes → (f ≡ formats.NoMemory) ⊎ (opening_of bytes ≡ Err f) → offset ≤ length bytes
placed_in bytes f offset is fits (inl none) = absurd (cc (is, none))
placed_in bytes f offset is fits (inr read) = subst (IsFaultIn bytes) is (opening_refused bytes fits f read)
