-- What the program's opening holds, by its numbers.
use Rattle.std.proofs.Common.{◌≡◌, ◌≤◌, ℕ, List, [], ◌∷◌, length, Option, None, Some, refl, arith, inl, inr, Result, Ok, Err, true, false, Bool, sym, subst, ◌∙◌}
use Rattle.std.specs.Prelude.{cond, All, IfOk, find}
use Rattle.std.specs.Option.{unwrap_or}
use Rattle.std.proofs.lemmas.List.Elements.{All-head, All-tail}
use Rattle.std.proofs.lemmas.Option.{none-some, same_Some}
use Rattle.prin_term.specs.declared.term.Anchor.{Anchor}
use Rattle.stmt_codec.specs.Certificates.{Certificate}
use Rattle.node_file.specs.declared.opening.Opening as code
use Rattle.prin_text.specs.declared.lines.fault.FileFault.{FileFault}
use Rattle.node_file.specs.declared.limits.TheConstants.{MAX_SHARDS, MAX_LIMIT, MAX_CHANNELS, MAX_ANCHORS, MAX_COMMONS}
use Rattle.node_file.specs.NodeFile.{Draft, opening_with}
use Rattle.node_file.specs.Opening.{Opening, FitsOpening, FitsObject}
use Rattle.node_file.specs.OpeningFile.{Means}
use Rattle.node_file.specs.OpeningView.{Represents}
use Rattle.node_file.specs.Meaning.{opening, FitsByNumber, SameNode}
use Rattle.node_file.proofs.DraftFits.{DraftFits, text_is}

-- ---- what the opening stands for

pub same_node : (node : code.Opening) (o : Opening) → Represents node o → SameNode (opening node) o
same_node node o r = record {
  relay_key = r.relay_key;
  channels = r.channels.each;
  anchors = r.anchors;
  objects = r.objects.each;
}

found_at : {A : Type 0} (P : A → Type 0) (test : A → Bool) (y : A) (xs : List A) (x : A) (b : Bool) → All P (y ∷ xs) → cond b (Some y) (find test xs) ≡ Some x → (find test xs ≡ Some x → P x) → P x
found_at P test y xs x true all is later = subst P (same_Some y x is) (All-head P y xs all)
found_at P test y xs x false all is later = later is

-- what is found passes what all do
pub found_all : {A : Type 0} (P : A → Type 0) (test : A → Bool) (xs : List A) (x : A) → All P xs → find test xs ≡ Some x → P x
found_all P test [] x all is = absurd (none-some x is)
found_all P test (y ∷ xs) x all is = found_at P test y xs x (test y) all is (λ e. found_all P test xs x (All-tail P y xs all) e)

fits_by_number : (node : code.Opening) (o : Opening) → Represents node o → FitsOpening o → FitsByNumber (opening node)
fits_by_number node o r fits = record {
  shards = subst (λ n. (1 ≤ n) × (n ≤ MAX_SHARDS)) (sym r.shards) fits.shards;
  limit = subst (λ n. n ≤ MAX_LIMIT) (sym r.limit) fits.limit.1;
  few_channels = subst (λ n. n ≤ MAX_CHANNELS) (sym r.channels.count) fits.few_channels;
  few_anchors = subst (λ (l : List Anchor). length l ≤ MAX_ANCHORS) (sym r.anchors) fits.few_anchors;
  few_commons = subst (λ (l : List Certificate). length l ≤ MAX_COMMONS) (sym r.commons) fits.few_commons;
  objects = λ n p is. found_all FitsObject _ o.objects p fits.objects (sym ((same_node node o r).objects n) ∙ is);
}

-- what is said, or else what holds where no line says it
pub said_within : (o : Option ℕ) (other most : ℕ) → (1 ≤ other) × (other ≤ most) → ((n : ℕ) → o ≡ Some n → (1 ≤ n) × (n ≤ most)) → (1 ≤ unwrap_or o other) × (unwrap_or o other ≤ most)
said_within None other most fits said = fits
said_within (Some n) other most fits said = said n refl

text_fits : (node : code.Opening) (d : Draft) (n : ℕ × List ℕ) → Represents node (opening_with n d) → DraftFits d → FitsByNumber (opening node)
text_fits node d n r fits = record {
  shards = subst (λ n. (1 ≤ n) × (n ≤ MAX_SHARDS)) (sym r.shards) (said_within d.settings.shards 1 MAX_SHARDS (omega arith, omega arith) fits.settings.shards);
  limit = subst (λ n. n ≤ MAX_LIMIT) (sym r.limit) (said_within d.settings.limit 16384 MAX_LIMIT (omega arith, omega arith) fits.settings.limit).1;
  few_channels = subst (λ n. n ≤ MAX_CHANNELS) (sym r.channels.count) fits.channels;
  few_anchors = subst (λ (l : List Anchor). length l ≤ MAX_ANCHORS) (sym r.anchors) fits.anchors;
  few_commons = subst (λ (l : List Certificate). length l ≤ MAX_COMMONS) (sym r.commons) fits.commons;
  objects = λ k p is. fits.objects k p (sym (r.objects.each k) ∙ is);
}

means_fit : (bytes : List ℕ) (node : code.Opening) (o : Opening) → Means o bytes → Represents node o → FitsByNumber (opening node)
means_fit bytes node o (inl is) r = fits_by_number node o r is.0
means_fit bytes node o (inr is) r =
    let t = text_is bytes o is.1 in
    text_fits node t.0 t.1 (subst (Represents node) (sym t.3) r) t.2

pub all_fit : (bytes : List ℕ) (r : Result code.Opening FileFault) → IfOk r (λ x. (o : Opening) × Means o bytes × Represents x o)
    → IfOk r (λ x. FitsByNumber (opening x))
all_fit bytes (Ok x) found = means_fit bytes x found.0 found.1 found.2
all_fit bytes (Err e) found = tt
