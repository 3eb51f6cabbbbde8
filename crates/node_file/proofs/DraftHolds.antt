-- What the lines of a node file say is within the limits in whole, but for the order of what is looked up.
use Rattle.std.proofs.Common.{◌≡◌, ◌≢◌, ℕ, ◌^◌, ◌<◌, ◌≤◌, Bool, true, false, cond, ltb, not, List, [], ◌∷◌, ◌++◌, length, drop, get_or, Option, None, Some, Result, Ok, refl, sym, ap, subst, ◌∙◌, arith, inl, inr, length-append}
use Rattle.std.specs.Prelude.{All, AllPairs, codes, nat_le}
use Rattle.std.specs.Option.{is_some}
use Rattle.std.proofs.Math.Seq.{get_or-append_seam}
use Rattle.std.proofs.lemmas.Bool.{cases_lt, false≢true}
use Rattle.std.proofs.lemmas.List.{get_or_append_left, length-map}
use Rattle.std.proofs.lemmas.List.Elements.{All-from_get_or, All-nil, All-push, All-weaker}
use Rattle.std.proofs.lemmas.Option.{none-some, same_Some}
use Rattle.hex.specs.Hex.{decode_of, decode_sized}
use Rattle.hex.proofs.HexLemmas.{decode_of-ok, decode_sized-ok, decode_sized-twice}
use Rattle.object_core.specs.Objects.{ObjectPlan, object_of}
use Rattle.prin_term.specs.Principal.{Principal}
use Rattle.byte_fields.specs.Readers.{is_new}
use Rattle.byte_fields.specs.Steps.{◌>>=◌, IsByte}
use Rattle.prin_term.specs.View.{Grant}
use Rattle.prin_term.specs.declared.term.Anchor.{Anchor}
use Rattle.byte_fields.proofs.FieldLaws.{bytes_are}
use Rattle.byte_fields.proofs.ReaderLaws.{is_new-All}
use Rattle.byte_fields.proofs.Results.{bind_ok, ok_is, with_fault_ok}
use Rattle.prin_text.specs.Labels.{Labels, Rows, number_of}
use Rattle.prin_text.specs.Words.{begins}
use Rattle.sealed_cert.specs.Refusals.{opened}
use Rattle.sealed_cert.proofs.Opened.{opened_takes}
use Rattle.stmt_codec.specs.Certificates.{Certificate}
use Rattle.stmt_codec.specs.Equality.{same_certificate}
use Rattle.stmt_codec.proofs.Equal.{same_certificate-apart}
use Rattle.prin_text.specs.declared.lines.fault.FileCause.{FileCause}
use Rattle.prin_text.specs.declared.lines.fault.FileCause.TheVariants as causes
use Rattle.prin_text.specs.declared.lines.fault.FileCause.TheVariants.{Limit, Twice, UnknownName, UnknownObject, UnknownWord}
use Rattle.node_file.specs.declared.limits.TheConstants.{MAX_ANCHORS, MAX_COMMONS, MAX_KEEP, MAX_LIMIT, MAX_OBJECTS, MAX_SHARDS}
use Rattle.node_file.specs.declared.node_text.kind.LineKind.{LineKind}
use Rattle.node_file.specs.declared.node_text.kind.LineKind.TheVariants as kinds
use Rattle.node_file.specs.declared.node_text.kind.Setting.{Setting}
use Rattle.node_file.specs.declared.node_text.kind.Setting.TheVariants as settings
use Rattle.node_file.specs.declared.node_text.settings.Settings.{Settings}
use Rattle.prin_text.specs.Fields.{bytes_of_digits, digits, granted, if_plain, key_of_digits, keyed, number_up_to, numbered, numbered_digits, one_number, one_word, some_or}
use Rattle.prin_text.proofs.Plain.{plain_ok}
use Rattle.prin_text.specs.FileLines.{first_of, unless}
use Rattle.prin_text.specs.Lines.{word_off}
use Rattle.node_file.specs.NodeFile.{Draft, adds, anchors_in, channels_in, commons_in, names_in, no_draft, node_step, objects_in, roles_in, settings_in}
use Rattle.node_file.specs.NodeLines.{anchor_said, anchors_and, changed_at, changed_if, common_said, commons_and, commons_of, contents_and, grants_and, kind_of, name_said, new_within, objects_and, settings_with, who_said, with_content, with_grant}
use Rattle.node_file.specs.NodeLines.{journal_with, keep_with, node_with, shards_with}
use Rattle.node_file.specs.Opening.{IsAnchor, IsChannel, IsCommon, IsKey}
use Rattle.node_file.specs.OpeningReading.{same_anchor}
use Rattle.node_file.proofs.DraftFits.{DraftFits, adds_fit}
use Rattle.node_file.proofs.NodeFits.{AreSmall, found_small, some_of}
use Rattle.node_file.proofs.OpeningFields.{apart}
use Rattle.node_file.proofs.PartsFit.{decoded_ok, digits_are_bytes, new_bounds, number_small, numbered_small, room_for, two_pass, unless_ok, with_value_ok}

-- ---- one more, which is apart from those before

pub AllPairs-push : {A : Type 0} (R : A → A → Type 0) (xs : List A) (x : A) → AllPairs R xs → All (λ b. R b x) xs → AllPairs R (xs ++ x ∷ [])
AllPairs-push {A} R xs x pairs all i j d below within = elim (cases_lt j (length xs)) [
  | inl inside ↦
      let before : i < length xs = omega (arith, below, inside) in
      subst (λ (y : A). R (get_or (xs ++ x ∷ []) i d) y) (sym (get_or_append_left xs (x ∷ []) d j inside))
      (subst (λ (y : A). R y (get_or xs j d)) (sym (get_or_append_left xs (x ∷ []) d i before)) (pairs i j d below inside))
  | inr past ↦
      let last : j ≡ length xs = omega (arith, past, within, length-append xs (x ∷ [])) in
      let before : i < length xs = omega (arith, below, last) in
      let here : get_or (xs ++ x ∷ []) j d ≡ x = ap (λ k. get_or (xs ++ x ∷ []) k d) last ∙ get_or-append_seam xs x [] d in
      subst (λ (y : A). R (get_or (xs ++ x ∷ []) i d) y) (sym here) (subst (λ (y : A). R y x) (sym (get_or_append_left xs (x ∷ []) d i before)) (all i d before))
]

AllPairs-none : {A : Type 0} (R : A → A → Type 0) → AllPairs R []
AllPairs-none R i j d below within = absurd (omega (arith, within))

on : (b : Bool) → not b ≡ false → b ≡ true
on true e = refl
on false e = absurd (false≢true (sym e))

-- ---- anchors and certificates

-- each fits, and none stands twice
abbrev Hold : {A : Type 0} → (A → Type 0) → List A → Type 0
Hold Fits l = All Fits l × AllPairs (λ a b. a ≢ b) l

one_of : {A E : Type 0} (b : Bool) (first second : Result A E) (x : A) (P : Type 0) → cond b first second ≡ Ok x → (first ≡ Ok x → P) → (second ≡ Ok x → P) → P
one_of true first second x P e from_first from_second = from_first e
one_of false first second x P e from_first from_second = from_second e

name_small : (names : Rows) (word : List ℕ) (n : ℕ) → AreSmall names → name_said names word ≡ Ok n → n < 2 ^ 32
unfolding name_said
name_small names word n small e =
    one_of (begins (codes "name:") word) (number_up_to 4294967295 (drop 5 word)) (some_or UnknownName (number_of names word)) n (n < 2 ^ 32) e
    (λ number. omega (arith, number_small 4294967295 n (drop 5 word) number)) (λ known. found_small names word n small (some_of UnknownName (number_of names word) n known))

abbrev anchor_of : ℕ → ℕ → Anchor
anchor_of key name = record { key = key; name = name }

anchor_fits : (names : Rows) (rest : List ℕ) (a : Anchor) → AreSmall names → anchor_said names rest ≡ Ok a → IsAnchor a
unfolding anchor_said
anchor_fits names rest a small e =
    let x = bind_ok (numbered rest) (λ x. name_said names x.1 >>= λ n. Ok (anchor_of x.0 n)) a e in
    let n = bind_ok (name_said names x.0.1) (λ n. Ok (anchor_of x.0.0 n)) a x.2 in
    subst IsAnchor (ok_is FileCause (anchor_of x.0.0 n.0) a n.2) (omega (arith, numbered_small rest x.0 x.1), name_small names x.0.1 n.0 small n.1)

anchors_hold : (above more : List Anchor) (a : Anchor) → Hold IsAnchor above → IsAnchor a → anchors_and above a ≡ Ok more → Hold IsAnchor more
unfolding anchors_and
anchors_hold above more a hold is e =
    let u = unless_ok (first_of ((not (is_new (same_anchor a) above), Twice) ∷ (nat_le MAX_ANCHORS (length above), Limit) ∷ [])) (above ++ a ∷ []) more e in
    let new = on (is_new (same_anchor a) above) (two_pass (not (is_new (same_anchor a) above)) (nat_le MAX_ANCHORS (length above)) Twice Limit u.0).0 in
    let others = All-weaker (λ b. same_anchor a b ≡ false) (λ b. b ≢ a) (λ b e. apart a b e) above (is_new-All (same_anchor a) above new) in
    subst (Hold IsAnchor) u.1 (All-push IsAnchor above a hold.0 is, AllPairs-push (λ (a : Anchor) (b : Anchor). a ≢ b) above a hold.1 others)

common_fits : (node : Option (ℕ × List ℕ)) (bytes : List ℕ) (c : Certificate) → All IsByte bytes → common_said node bytes ≡ Ok c → IsCommon c
common_fits None bytes c all e = absurd cc
common_fits (Some node) bytes c all e =
    let is = opened_takes node.1 bytes c (bytes_are bytes all) (with_fault_ok (λ _. causes.Certificate) (opened node.1 bytes) c e) in
    (is.numbers, is.limits)

commons_hold : (above more : List Certificate) (c : Certificate) → Hold IsCommon above → IsCommon c → commons_and above c ≡ Ok more → Hold IsCommon more
unfolding commons_and
commons_hold above more c hold is e =
    let u = unless_ok (first_of ((not (is_new (same_certificate c) above), Twice) ∷ (nat_le MAX_COMMONS (length above), Limit) ∷ [])) (above ++ c ∷ []) more e in
    let new = on (is_new (same_certificate c) above) (two_pass (not (is_new (same_certificate c) above)) (nat_le MAX_COMMONS (length above)) Twice Limit u.0).0 in
    let others = All-weaker (λ d. same_certificate c d ≡ false) (λ d. d ≢ c) (λ d e same. same_certificate-apart c d e (sym same)) above (is_new-All (same_certificate c) above new) in
    subst (Hold IsCommon) u.1 (All-push IsCommon above c hold.0 is, AllPairs-push (λ (c : Certificate) (d : Certificate). c ≢ d) above c hold.1 others)

digits_bytes : (rest bytes : List ℕ) → digits rest ≡ Ok bytes → All IsByte bytes
unfolding digits
digits_bytes rest bytes e =
    let w = bind_ok (one_word rest) (λ word. bytes_of_digits word) bytes e in
    digits_are_bytes w.0 bytes w.2

-- ---- the counts of objects

objects_few : (above more : List ObjectPlan) (n : ℕ) → objects_and above n ≡ Ok more → length more ≤ MAX_OBJECTS
unfolding objects_and
objects_few above more n e = room_for MAX_OBJECTS (is_some (object_of above n)) Twice above more (record { number = n; content = []; list = [] }) e

changed_few : (above more : List ObjectPlan) (n : ℕ) (f : ObjectPlan → ObjectPlan) → length above ≤ MAX_OBJECTS → changed_at n f above ≡ more → length more ≤ MAX_OBJECTS
changed_few above more n f few same = subst (λ (l : List ObjectPlan). length l ≤ MAX_OBJECTS) same (omega (arith, few, length-map above (changed_if n f)))

contents_few : (above more : List ObjectPlan) (x : ℕ × List ℕ) → length above ≤ MAX_OBJECTS → contents_and above x ≡ Ok more → length more ≤ MAX_OBJECTS
unfolding contents_and
contents_few above more x few e =
    let p = bind_ok (some_or UnknownObject (object_of above x.0)) (λ p. unless (first_of ((ltb 0 (length p.content), Twice) ∷ (ltb 4096 (length x.1), Limit) ∷ [])) (changed_at x.0 (with_content x.1) above)) more e in
    let u = unless_ok (first_of ((ltb 0 (length p.0.content), Twice) ∷ (ltb 4096 (length x.1), Limit) ∷ [])) (changed_at x.0 (with_content x.1) above) more p.2 in
    changed_few above more x.0 (with_content x.1) few u.1

grants_few : (labels : Labels) (above more : List ObjectPlan) (x : ℕ × ℕ × List ℕ) → length above ≤ MAX_OBJECTS → grants_and labels above x ≡ Ok more → length more ≤ MAX_OBJECTS
unfolding grants_and
grants_few labels above more x few e =
    let grant_of : Principal → Grant = λ who. record { rights = x.1; who = who } in
    let step : ObjectPlan → Principal → Result (List ObjectPlan) FileCause = λ p who. unless (first_of ((nat_le 8 (length p.list), Limit) ∷ [])) (changed_at x.0 (with_grant (grant_of who)) above) in
    let p = bind_ok (some_or UnknownObject (object_of above x.0)) (λ p. who_said labels x.2 >>= λ who. step p who) more e in
    let who = bind_ok (who_said labels x.2) (step p.0) more p.2 in
    let u = unless_ok (first_of ((nat_le 8 (length p.0.list), Limit) ∷ [])) (changed_at x.0 (with_grant (grant_of who.0)) above) more who.2 in
    changed_few above more x.0 (with_grant (grant_of who.0)) few u.1

-- ---- settings

key_fits : (word key : List ℕ) → key_of_digits word ≡ Ok key → IsKey key
unfolding key_of_digits
key_fits word key e =
    let sized = decoded_ok (decode_sized word 32) key e in
    let len = decode_sized-ok word 32 key sized in
    let whole : decode_of word ≡ Ok key = sym (decode_sized-twice word 32 len) ∙ sized in
    let is = decode_of-ok word key whole in
    (omega (arith, len, is.2), All-from_get_or IsByte key 0 (λ i lt. is.3 i))

keyed_fits : (rest : List ℕ) (x : ℕ × List ℕ) → keyed rest ≡ Ok x → IsChannel x
unfolding keyed
keyed_fits rest x e =
    let w = bind_ok (numbered rest) (λ x. key_of_digits x.1 >>= λ key. Ok (x.0, key)) x e in
    let key = bind_ok (key_of_digits w.0.1) (λ key. Ok (w.0.0, key)) x w.2 in
    subst IsChannel (ok_is FileCause (w.0.0, key.0) x key.2) (omega (arith, numbered_small rest w.0 w.1), key_fits w.0.1 key.0 key.1)

-- what the settings say where they say it
pub record SettingsHold (s : Settings) : Type 0 where
  pub node : (x : ℕ × List ℕ) → s.node ≡ Some x → IsChannel x
  pub keep : (n : ℕ) → s.keep ≡ Some n → (1 ≤ n) × (n ≤ MAX_KEEP)

settings_hold : (above s : Settings) (setting : Setting) (rest : List ℕ) → SettingsHold above → settings_with above setting rest ≡ Ok s → SettingsHold s
unfolding node_with shards_with keep_with journal_with
settings_hold above s settings.Node rest hold e =
    let x = bind_ok (keyed rest) (λ x. unless (first_of ((is_some above.node, Twice) ∷ [])) (record above { node = Some x })) s e in
    let u = unless_ok (first_of ((is_some above.node, Twice) ∷ [])) (record above { node = Some x.0 }) s x.2 in
    subst SettingsHold u.1 (record { node = λ y is. subst IsChannel (same_Some x.0 y is) (keyed_fits rest x.0 x.1); keep = hold.keep })
settings_hold above s settings.Shards rest hold e =
    let x = bind_ok (one_number 4294967295 rest) (λ n. new_within MAX_SHARDS (is_some above.shards) n >>= λ n. Ok (record above { shards = Some n })) s e in
    let n = bind_ok (new_within MAX_SHARDS (is_some above.shards) x.0) (λ n. Ok (record above { shards = Some n })) s x.2 in
    let more : Settings = record above { shards = Some n.0 } in
    subst SettingsHold (ok_is FileCause more s n.2) (record { node = hold.node; keep = hold.keep })
settings_hold above s settings.Keep rest hold e =
    let x = bind_ok (one_number 18446744073709551615 rest) (λ n. new_within MAX_KEEP (is_some above.keep) n >>= λ n. Ok (record above { keep = Some n })) s e in
    let n = bind_ok (new_within MAX_KEEP (is_some above.keep) x.0) (λ n. Ok (record above { keep = Some n })) s x.2 in
    let more : Settings = record above { keep = Some n.0 } in
    subst SettingsHold (ok_is FileCause more s n.2)
    (record { node = hold.node; keep = λ k is. subst (λ m. (1 ≤ m) × (m ≤ MAX_KEEP)) (same_Some n.0 k is) (new_bounds MAX_KEEP x.0 n.0 (is_some above.keep) n.1) })
settings_hold above s settings.Journal rest hold e =
    let x = bind_ok (one_number 18446744073709551615 rest) (λ n. new_within MAX_LIMIT (is_some above.limit) n >>= λ n. Ok (record above { limit = Some n })) s e in
    let n = bind_ok (new_within MAX_LIMIT (is_some above.limit) x.0) (λ n. Ok (record above { limit = Some n })) s x.2 in
    let more : Settings = record above { limit = Some n.0 } in
    subst SettingsHold (ok_is FileCause more s n.2) (record { node = hold.node; keep = hold.keep })

-- ---- a line

pub record DraftHolds (d : Draft) : Type 0 where
  pub fits : DraftFits d
  pub settings : SettingsHold d.settings
  pub anchors : Hold IsAnchor d.anchors
  pub commons : Hold IsCommon d.commons
  pub objects : length d.objects ≤ MAX_OBJECTS

none_said : {A : Type 0} (x : A) (P : Type 0) → (let o : Option A = None in o) ≡ Some x → P
none_said x P e = absurd (none-some x e)

pub nothing_holds : DraftFits no_draft → DraftHolds no_draft
nothing_holds fits = record {
  fits = fits;
  settings = record { node = λ x e. none_said x _ e; keep = λ n e. none_said n _ e };
  anchors = (All-nil IsAnchor, AllPairs-none (λ (a : Anchor) (b : Anchor). a ≢ b));
  commons = (All-nil IsCommon, AllPairs-none (λ (a : Certificate) (b : Certificate). a ≢ b));
  objects = omega arith;
}

module _ (d more : Draft) (rest : List ℕ) (hold : DraftHolds d) where
  pub adds_hold : (kind : LineKind) → adds d kind rest ≡ Ok more → DraftHolds more
  adds_hold (kinds.Setting setting) e =
      let s = with_value_ok (settings_in d) (settings_with d.settings setting rest) more e in
      let held : DraftFits (settings_in d s.0) = subst DraftFits (sym s.2) (adds_fit d more (kinds.Setting setting) rest hold.fits e) in
      subst DraftHolds s.2 (record { fits = held; settings = settings_hold d.settings s.0 setting rest hold.settings s.1; anchors = hold.anchors; commons = hold.commons; objects = hold.objects })
  adds_hold kinds.Name e =
      let s = with_value_ok (names_in d) _ more e in
      let held : DraftFits (names_in d s.0) = subst DraftFits (sym s.2) (adds_fit d more kinds.Name rest hold.fits e) in
      subst DraftHolds s.2 (record { fits = held; settings = hold.settings; anchors = hold.anchors; commons = hold.commons; objects = hold.objects })
  adds_hold kinds.Role e =
      let s = with_value_ok (roles_in d) _ more e in
      let held : DraftFits (roles_in d s.0) = subst DraftFits (sym s.2) (adds_fit d more kinds.Role rest hold.fits e) in
      subst DraftHolds s.2 (record { fits = held; settings = hold.settings; anchors = hold.anchors; commons = hold.commons; objects = hold.objects })
  adds_hold kinds.Channel e =
      let s = with_value_ok (channels_in d) _ more e in
      let held : DraftFits (channels_in d s.0) = subst DraftFits (sym s.2) (adds_fit d more kinds.Channel rest hold.fits e) in
      subst DraftHolds s.2 (record { fits = held; settings = hold.settings; anchors = hold.anchors; commons = hold.commons; objects = hold.objects })
  adds_hold kinds.Anchor e =
      let s = with_value_ok (anchors_in d) (anchor_said d.labels.names rest >>= λ a. anchors_and d.anchors a) more e in
      let held : DraftFits (anchors_in d s.0) = subst DraftFits (sym s.2) (adds_fit d more kinds.Anchor rest hold.fits e) in
      let a = bind_ok (anchor_said d.labels.names rest) (λ a. anchors_and d.anchors a) s.0 s.1 in
      subst DraftHolds s.2
      (record { fits = held; settings = hold.settings; anchors = anchors_hold d.anchors s.0 a.0 hold.anchors (anchor_fits d.labels.names rest a.0 hold.fits.names a.1) a.2; commons = hold.commons; objects = hold.objects })
  adds_hold kinds.Common e =
      let s = with_value_ok (commons_in d) (digits rest >>= λ bytes. commons_of d.settings.node d.commons bytes) more e in
      let held : DraftFits (commons_in d s.0) = subst DraftFits (sym s.2) (adds_fit d more kinds.Common rest hold.fits e) in
      let bytes = bind_ok (digits rest) (λ bytes. commons_of d.settings.node d.commons bytes) s.0 s.1 in
      let c = bind_ok (common_said d.settings.node bytes.0) (λ c. commons_and d.commons c) s.0 bytes.2 in
      subst DraftHolds s.2
      (record { fits = held; settings = hold.settings; anchors = hold.anchors; commons = commons_hold d.commons s.0 c.0 hold.commons (common_fits d.settings.node bytes.0 c.0 (digits_bytes rest bytes.0 bytes.1) c.1) c.2; objects = hold.objects })
  adds_hold kinds.Object e =
      let s = with_value_ok (objects_in d) (one_number 4294967295 rest >>= λ n. objects_and d.objects n) more e in
      let held : DraftFits (objects_in d s.0) = subst DraftFits (sym s.2) (adds_fit d more kinds.Object rest hold.fits e) in
      let n = bind_ok (one_number 4294967295 rest) (λ n. objects_and d.objects n) s.0 s.1 in
      subst DraftHolds s.2 (record { fits = held; settings = hold.settings; anchors = hold.anchors; commons = hold.commons; objects = objects_few d.objects s.0 n.0 n.2 })
  adds_hold kinds.Content e =
      let s = with_value_ok (objects_in d) (numbered_digits rest >>= λ x. contents_and d.objects x) more e in
      let held : DraftFits (objects_in d s.0) = subst DraftFits (sym s.2) (adds_fit d more kinds.Content rest hold.fits e) in
      let x = bind_ok (numbered_digits rest) (λ x. contents_and d.objects x) s.0 s.1 in
      subst DraftHolds s.2 (record { fits = held; settings = hold.settings; anchors = hold.anchors; commons = hold.commons; objects = contents_few d.objects s.0 x.0 hold.objects x.2 })
  adds_hold kinds.Allow e =
      let s = with_value_ok (objects_in d) (granted rest >>= λ x. grants_and d.labels d.objects x) more e in
      let held : DraftFits (objects_in d s.0) = subst DraftFits (sym s.2) (adds_fit d more kinds.Allow rest hold.fits e) in
      let x = bind_ok (granted rest) (λ x. grants_and d.labels d.objects x) s.0 s.1 in
      subst DraftHolds s.2 (record { fits = held; settings = hold.settings; anchors = hold.anchors; commons = hold.commons; objects = grants_few d.labels d.objects s.0 x.0 hold.objects x.2 })

pub step_holds : (d more : Draft) (line : List ℕ) → DraftHolds d → node_step d line ≡ Ok more → DraftHolds more
unfolding node_step
step_holds d more line hold e =
    let k = bind_ok (some_or UnknownWord (kind_of (word_off line).0)) (λ kind. if_plain line (adds d kind (word_off line).1)) more e in
    adds_hold d more (word_off line).1 hold k.0 (plain_ok line (adds d k.0 (word_off line).1) more k.2)
