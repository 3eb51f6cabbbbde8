-- Proofs: bytes that are refused as one are refused at one of them or right after the last, and a spelling that is cut is refused at the cut.
use Rattle.std.proofs.Common.{◌≡◌, ◌≢◌, ℕ, ◌+◌, ◌<◌, ◌≤◌, List, [], ◌++◌, length, Err, sym, ap, subst, ◌∙◌, append-nil, arith, inl, inr, length-append}
use Rattle.std.specs.Prelude.{nat_lt}
use Rattle.byte_fields.specs.Formats.{ended, IsFaultIn}
use Rattle.byte_fields.specs.declared.fault.FormatFault.{FormatFault as ProofFault}
use Rattle.byte_fields.specs.declared.fault.FormatFault.TheVariants.{Malformed, NoMemory}
use Rattle.byte_fields.proofs.Forms.{Form, lacks, form_followed, form_passing, form_made, form_given, form_if, form_counted, form_u8, form_u16, form_u32}
use Rattle.byte_fields.proofs.Results.{bind_err, chosen, refused_err}
use Rattle.taos_calculus.specs.declared.reading_nodes.NodeShape.{NodeShape}
use Rattle.taos_calculus.specs.declared.reading_nodes.NodeShape.TheVariants.{Atom, Role, Pair}
use Rattle.taos_calculus.specs.declared.reading_lines.StepShape.{StepShape}
use Rattle.taos_calculus.specs.declared.reading_lines.StepShape.TheVariants.{Bare, Place, OneLine, TwoLines}
use Rattle.taos_calculus.specs.Tables.{Parts, lines_of}
use Rattle.taos_calculus.specs.Spelling.{proof_spelling}
use Rattle.taos_calculus.specs.Spells.{Spells}
use Rattle.taos_calculus.specs.ProofReading.{byte_up_to, number_in, pair_in, node_shape, node_fields_at, node_at, nodes_at}
use Rattle.taos_calculus.specs.ProofReading.{gives_says, fact_at, step_shape, premises_at, step_at, line_at, lines_at, parts_at, is_canonical, proof_from, proof_of}
use Rattle.taos_calculus.proofs.ProofLaws.{parts_in, parts_refused}

module _ {Right : List ℕ → Type 0} where
  number_form : (n : ℕ) → Form Right (number_in n)
  number_form n = form_passing _ form_u16

  up_to_form : (last : ℕ) → Form Right (byte_up_to last)
  up_to_form last = form_passing _ form_u8

  pair_form : (n : ℕ) → Form Right (pair_in n)
  unfolding pair_in
  pair_form n = form_followed (number_form n) (λ _. number_form n)

  fields_form : (n : ℕ) (shape : NodeShape) → Form Right (λ bytes. node_fields_at bytes n shape)
  unfolding node_fields_at
  fields_form n Atom = form_made _ form_u32
  fields_form n Role = form_made _ (form_followed (number_form n) (λ _. form_u32))
  fields_form n Pair = form_made _ (pair_form n)

  node_form : (n : ℕ) → Form Right (λ bytes. node_at bytes n)
  unfolding node_at
  node_form n = form_made _ (form_followed (up_to_form 6) (λ tag. form_made _ (fields_form n (node_shape tag))))

  nodes_form : Form Right nodes_at
  unfolding nodes_at
  nodes_form = form_counted _ form_u16 (λ before. node_form (length before))

  fact_form : (n rule : ℕ) → Form Right (λ bytes. fact_at bytes n rule)
  unfolding fact_at
  fact_form n rule = form_if (gives_says rule) (form_made _ (form_followed (number_form n) (λ _. pair_form n))) (form_made _ (pair_form n))

  premises_form : (shape : StepShape) → Form Right (λ bytes. premises_at bytes shape)
  unfolding premises_at
  premises_form Bare = form_given (0, (0, 0))
  premises_form Place = form_made _ form_u16
  premises_form OneLine = form_made _ form_u32
  premises_form TwoLines = form_made _ (form_followed form_u32 (λ _. form_u32))

  line_form : (n : ℕ) → Form Right (λ bytes. line_at bytes n)
  unfolding line_at step_at
  line_form n = form_made _ (form_followed (up_to_form 15) (λ rule. form_followed (fact_form n rule) (λ _. form_made _ (premises_form (step_shape rule)))))

  lines_form : (n : ℕ) → Form Right (λ bytes. lines_at bytes n)
  unfolding lines_at
  lines_form n = form_counted _ form_u32 (λ _. line_form n)

-- bytes of any numbers
abbrev Any : List ℕ → Type 0
Any bytes = Unit {0}

parts_form : Form Any parts_at
unfolding parts_at
parts_form = form_made _ (form_followed nodes_form (λ nodes. lines_form (length nodes)))

module _ (bytes : List ℕ) where
  pub proof_tells : (at : ℕ) (f : ProofFault) → at ≤ length bytes → proof_from bytes at ≡ Err f → IsFaultIn bytes f
  unfolding proof_from
  proof_tells at f le e = elim (bind_err (parts_at bytes at) _ f e) [
    | inl x ↦ (parts_form.stays bytes tt).refuses at f le x
    | inr x ↦ elim (chosen (is_canonical x.0.0) _ (Err (Malformed at)) (Err f) x.2) [
      | inl is ↦ subst (IsFaultIn bytes) (sym (refused_err (nat_lt x.0.1 (length bytes)) (Malformed x.0.1) f x.0.0 is.1).1) ((parts_form.stays bytes tt).ends at x.0 le x.1)
      | inr isnt ↦ let same : Malformed at ≡ f = cc (isnt.1) in subst (IsFaultIn bytes) same le
    ]
  ]

  -- so reading as a function is never out of memory
  pub never_memory : proof_of bytes ≢ Err NoMemory
  never_memory = λ e. proof_tells 0 NoMemory (omega arith) e

pub cut_refused : (parts : Parts) (front more : List ℕ) → Spells parts (front ++ more) → 0 < length more → proof_of front ≡ Err (ended front)
cut_refused parts front more is some =
    let whole = parts_in (front ++ more) [] 0 parts is.limits (is.text ∙ sym (append-nil (proof_spelling (lines_of parts)))) in
    let x : Parts × ℕ = (parts, 0 + length (proof_spelling (lines_of parts))) in
    let past : length front < x.1 = omega (arith, ap length is.text, some, length-append front more) in
    parts_refused front 0 (ended front) (lacks parts_form front more tt 0 x (omega arith) whole past)
