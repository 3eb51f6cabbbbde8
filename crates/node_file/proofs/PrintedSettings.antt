-- The printed lines of the settings are taken.
use Rattle.std.proofs.Common.{◌≡◌, ℕ, ◌^◌, ◌<◌, ◌≤◌, false, List, [], ◌∷◌, ◌++◌, None, Some, Ok, refl, ap, ◌∙◌, arith}
use Rattle.std.specs.Prelude.{codes}
use Rattle.std.specs.Fmt.{decimal}
use Rattle.std.specs.Option.{is_some}
use Rattle.hex.specs.Hex.{encode_lower}
use Rattle.byte_fields.specs.Steps.{◌>>=◌, with_value}
use Rattle.byte_fields.proofs.FormatFields.{is_within-true}
use Rattle.prin_text.specs.declared.lines.fault.FileCause.TheVariants.{Twice}
use Rattle.node_file.specs.declared.limits.TheConstants.{MAX_SHARDS, MAX_KEEP, MAX_LIMIT}
use Rattle.node_file.specs.declared.node_text.kind.LineKind.TheVariants as kinds
use Rattle.node_file.specs.declared.node_text.kind.Setting.{Setting}
use Rattle.node_file.specs.declared.node_text.kind.Setting.TheVariants as settings
use Rattle.node_file.specs.declared.node_text.settings.Settings.{Settings}
use Rattle.prin_text.specs.FileLines.{first_of, unless}
use Rattle.node_file.specs.FilePrinting.{bytes_line, number_line, settings_lines}
use Rattle.node_file.specs.NodeFile.{no_draft, settings_in}
use Rattle.prin_text.specs.Fields.{one_number}
use Rattle.node_file.specs.NodeLines.{journal_with, keep_with, new_within, node_with, settings_with, shards_with}
use Rattle.node_file.specs.Opening.{FitsOpening, Opening}
use Rattle.node_file.proofs.PrintedFields.{decimal_word, key_word, keyed_again, one_number_again, tail_plain}
use Rattle.node_file.proofs.PrintedSteps.{Goes, Takes, takes_line, word_of}

new_again : (most n : ℕ) → (1 ≤ n) × (n ≤ most) → new_within most false n ≡ Ok n
unfolding new_within
new_again most n within = rw (is_within-true 1 most n within.0 within.1) refl

-- ---- a line of one number

-- what it makes of the settings, which do not say it yet
abbrev Says : Setting → ℕ → ℕ → Settings → (ℕ → Settings) → Type 0
Says setting bound most above f =
    (rest : List ℕ) → settings_with above setting rest ≡ (one_number bound rest >>= λ n. new_within most false n >>= λ n. Ok (f n))

shards_says : (above : Settings) → above.shards ≡ None → Says settings.Shards 4294967295 MAX_SHARDS above (λ n. record above { shards = Some n })
unfolding shards_with
shards_says above none rest = rw none refl

keep_says : (above : Settings) → above.keep ≡ None → Says settings.Keep 18446744073709551615 MAX_KEEP above (λ n. record above { keep = Some n })
unfolding keep_with
keep_says above none rest = rw none refl

journal_says : (above : Settings) → above.limit ≡ None → Says settings.Journal 18446744073709551615 MAX_LIMIT above (λ n. record above { limit = Some n })
unfolding journal_with
journal_says above none rest = rw none refl

number_taken : (setting : Setting) (bound most n : ℕ) (above : Settings) (f : ℕ → Settings) → Says setting bound most above f → n ≤ bound → bound < 2 ^ 64 → (1 ≤ n) × (n ≤ most)
    → Takes (settings_in no_draft above) (number_line (word_of (kinds.Setting setting)) n) (settings_in no_draft (f n))
number_taken setting bound most n above f says small wide within =
    let lt : n < 2 ^ 64 = omega (arith, small, wide) in
    let read = one_number_again bound n small lt in
    let said = says (32 ∷ decimal n) ∙ ap (λ r. r >>= λ n. new_within most false n >>= λ n. Ok (f n)) read ∙ ap (λ r. r >>= λ n. Ok (f n)) (new_again most n within) in
    takes_line (settings_in no_draft above) (settings_in no_draft (f n)) (kinds.Setting setting) (decimal n) (decimal_word n lt).plain (ap (with_value (settings_in no_draft)) said)

-- ---- all of them

-- the settings that are said after each line
abbrev first_said : Opening → Settings
first_said o = record { node = Some (o.node, o.relay_key); shards = None; keep = None; limit = None }

abbrev second_said : Opening → Settings
second_said o = record { node = Some (o.node, o.relay_key); shards = Some o.shards; keep = None; limit = None }

abbrev third_said : Opening → Settings
third_said o = record { node = Some (o.node, o.relay_key); shards = Some o.shards; keep = Some o.keep; limit = None }

abbrev pub all_said : Opening → Settings
all_said o = record { node = Some (o.node, o.relay_key); shards = Some o.shards; keep = Some o.keep; limit = Some o.limit }

module _ (o : Opening) (fits : FitsOpening o) where
  node_small : o.node ≤ 4294967295
  node_small = omega (arith, fits.node)

  node_again : node_with no_draft.settings (32 ∷ (decimal o.node ++ 32 ∷ encode_lower o.relay_key)) ≡ Ok (first_said o)
  unfolding node_with
  node_again =
      ap (λ r. r >>= λ x. unless (first_of ((is_some no_draft.settings.node, Twice) ∷ [])) (record no_draft.settings { node = Some x })) (keyed_again o.relay_key o.node fits.relay_key node_small)

  node_taken : Takes no_draft (bytes_line (codes "node") (o.node, o.relay_key)) (settings_in no_draft (first_said o))
  node_taken =
      takes_line no_draft (settings_in no_draft (first_said o)) (kinds.Setting settings.Node) (decimal o.node ++ 32 ∷ encode_lower o.relay_key)
      (tail_plain (encode_lower o.relay_key) o.node (key_word o.relay_key fits.relay_key) node_small) (ap (with_value (settings_in no_draft)) node_again)

  shards_taken : Takes (settings_in no_draft (first_said o)) (number_line (codes "shards") o.shards) (settings_in no_draft (second_said o))
  shards_taken = number_taken settings.Shards 4294967295 MAX_SHARDS o.shards (first_said o) (λ n. record (first_said o) { shards = Some n }) (shards_says (first_said o) refl) (omega (arith, fits.shards.1)) (omega arith) fits.shards

  keep_taken : Takes (settings_in no_draft (second_said o)) (number_line (codes "keep") o.keep) (settings_in no_draft (third_said o))
  keep_taken = number_taken settings.Keep 18446744073709551615 MAX_KEEP o.keep (second_said o) (λ n. record (second_said o) { keep = Some n }) (keep_says (second_said o) refl) (omega (arith, fits.keep.1)) (omega arith) fits.keep

  journal_taken : Takes (settings_in no_draft (third_said o)) (number_line (codes "journal") o.limit) (settings_in no_draft (all_said o))
  journal_taken = number_taken settings.Journal 18446744073709551615 MAX_LIMIT o.limit (third_said o) (λ n. record (third_said o) { limit = Some n }) (journal_says (third_said o) refl) (omega (arith, fits.limit.1)) (omega arith) fits.limit

  pub settings_go : Goes no_draft (settings_lines o) (settings_in no_draft (all_said o))
  settings_go = (settings_in no_draft (first_said o), node_taken, (settings_in no_draft (second_said o), shards_taken, (settings_in no_draft (third_said o), keep_taken, (settings_in no_draft (all_said o), journal_taken, refl))))
