-- The printed lines of objects are taken.
use Rattle.std.proofs.Common.{◌≡◌, ◌≢◌, ℕ, ◌<◌, ◌≤◌, Bool, true, false, cond, eqb, leb, ltb, List, [], ◌∷◌, ◌++◌, length, map, Option, None, Some, Result, Ok, Err, refl, ap, ◌∙◌, arith}
use Rattle.std.specs.Prelude.{All, codes}
use Rattle.std.specs.Fmt.{decimal}
use Rattle.std.specs.List.{flat_map}
use Rattle.std.proofs.lemmas.Bool.{lt-ltb}
use Rattle.std.proofs.lemmas.Bool.Decides.{nat_tests}
use Rattle.std.proofs.lemmas.List.Elements.{All-head, All-tail}
use Rattle.hex.specs.Hex.{encode_lower}
use Rattle.object_core.specs.Objects.{ObjectPlan, object_of}
use Rattle.object_core.specs.Operation.{FitsGrant, IsAccessList, IsContent}
use Rattle.object_core.specs.declared.limits.TheConstants.{MAX_CONTENT, MAX_ENTRIES}
use Rattle.byte_fields.specs.Steps.{◌>>=◌, with_value}
use Rattle.prin_term.specs.View.{Grant}
use Rattle.byte_fields.proofs.ReaderLaws.{AllPairs-before}
use Rattle.prin_text.specs.Labels.{AreLabels}
use Rattle.prin_text.specs.Printing.{principal_text, rights_text}
use Rattle.prin_text.specs.Words.{rights_of}
use Rattle.prin_text.proofs.Listed.{rights_again}
use Rattle.prin_text.specs.declared.lines.fault.FileCause.{FileCause}
use Rattle.prin_text.specs.declared.lines.fault.FileCause.TheVariants.{Rights, Words}
use Rattle.node_file.specs.declared.limits.TheConstants.{MAX_OBJECTS}
use Rattle.node_file.specs.declared.node_text.kind.LineKind.TheVariants as kinds
use Rattle.prin_text.specs.Fields.{granted, number_up_to, some_or, two_and_rest}
use Rattle.node_file.specs.FilePrinting.{allow_line, bytes_line, content_lines, number_line, object_lines}
use Rattle.prin_text.specs.Lines.{is_plain, unblanked, word_off}
use Rattle.node_file.specs.NodeFile.{Draft, objects_in}
use Rattle.node_file.specs.NodeLines.{changed_at, contents_and, grants_and, objects_and, with_content, with_grant}
use Rattle.node_file.specs.Opening.{FitsObject}
use Rattle.node_file.proofs.PrintedFields.{decimal_word, hex_word, number_again, numbered_digits_again, one_number_again, tail_plain}
use Rattle.node_file.proofs.PrintedParts.{each_goes, each_taken, fewer, this_one}
use Rattle.node_file.proofs.PrintedSteps.{Goes, goes_append, Takes, takes_line}
use Rattle.node_file.proofs.PrintedTables.{AreFew}
use Rattle.node_file.proofs.PrintedTexts.{rights_word, text_shown, who_again}
use Rattle.node_file.proofs.PrintedWords.{IsWord, plain_append, word_next}

-- an object, of its parts
abbrev object : ℕ → List ℕ → List Grant → ObjectPlan
object n content list = record { number = n; content = content; list = list }

-- none of the objects has the number
abbrev HaveNot : ℕ → List ObjectPlan → Type 0
HaveNot n above = All (λ p. p.number ≢ n) above

-- ---- the last object, whose number is new

object_is_new : (above : List ObjectPlan) (n : ℕ) → HaveNot n above → object_of above n ≡ None
object_is_new [] n all = refl
object_is_new (p ∷ above) n all =
    let other : eqb p.number n ≡ false = grind (arith, nat_tests, All-head (λ (p : ObjectPlan). p.number ≢ n) p above all) in
    rw other (object_is_new above n (All-tail (λ (p : ObjectPlan). p.number ≢ n) p above all))

last_found : (above : List ObjectPlan) (p : ObjectPlan) → HaveNot p.number above → object_of (above ++ p ∷ []) p.number ≡ Some p
last_found [] p all =
    let same : eqb p.number p.number ≡ true = grind (arith, nat_tests) in
    rw same refl
last_found (q ∷ above) p all =
    let other : eqb q.number p.number ≡ false = grind (arith, nat_tests, All-head (λ (q : ObjectPlan). q.number ≢ p.number) q above all) in
    rw other (last_found above p (All-tail (λ (q : ObjectPlan). q.number ≢ p.number) q above all))

last_changed : (above : List ObjectPlan) (p : ObjectPlan) (f : ObjectPlan → ObjectPlan) → HaveNot p.number above → changed_at p.number f (above ++ p ∷ []) ≡ above ++ f p ∷ []
last_changed [] p f all =
    let same : eqb p.number p.number ≡ true = grind (arith, nat_tests) in
    rw same refl
last_changed (q ∷ above) p f all =
    let other : eqb q.number p.number ≡ false = grind (arith, nat_tests, All-head (λ (q : ObjectPlan). q.number ≢ p.number) q above all) in
    ap (λ (b : Bool). (let x : ObjectPlan = cond b (f q) q in x) ∷ changed_at p.number f (above ++ p ∷ [])) other
    ∙ ap (λ (l : List ObjectPlan). q ∷ l) (last_changed above p f (All-tail (λ (q : ObjectPlan). q.number ≢ p.number) q above all))

-- ---- the line of an object

module _ (above : List ObjectPlan) (n : ℕ) (new : HaveNot n above) (room : length above < MAX_OBJECTS) (small : n ≤ 4294967295) (d : Draft) where
  object_free : objects_and above n ≡ Ok (above ++ object n [] [] ∷ [])
  unfolding objects_and
  object_free =
      let left : leb MAX_OBJECTS (length above) ≡ false = grind (arith, nat_tests, room) in
      rw (object_is_new above n new, left) refl

  object_taken : Takes (objects_in d above) (number_line (codes "object") n) (objects_in d (above ++ object n [] [] ∷ []))
  object_taken =
      takes_line (objects_in d above) (objects_in d (above ++ object n [] [] ∷ [])) kinds.Object (decimal n) (decimal_word n (omega (arith, small))).plain
      (ap (with_value (objects_in d)) (ap (λ r. r >>= λ n. objects_and above n) (one_number_again 4294967295 n small (omega (arith, small))) ∙ object_free))

  -- ---- the line of its content

  content_free : (content : List ℕ) → length content ≤ MAX_CONTENT → contents_and (above ++ object n [] [] ∷ []) (n, content) ≡ Ok (above ++ object n content [] ∷ [])
  unfolding contents_and
  content_free content short =
      let within : ltb MAX_CONTENT (length content) ≡ false = grind (arith, nat_tests, short) in
      rw (last_found above (object n [] []) new, within, last_changed above (object n [] []) (with_content content) new) refl

  content_taken : (content : List ℕ) → IsContent content → 0 < length content → Takes (objects_in d (above ++ object n [] [] ∷ [])) (bytes_line (codes "content") (n, content)) (objects_in d (above ++ object n content [] ∷ []))
  content_taken content is some =
      takes_line (objects_in d (above ++ object n [] [] ∷ [])) (objects_in d (above ++ object n content [] ∷ [])) kinds.Content (decimal n ++ 32 ∷ encode_lower content)
      (tail_plain (encode_lower content) n (hex_word content is.1 some) small)
      (ap (with_value (objects_in d)) (ap (λ r. r >>= λ x. contents_and (above ++ object n [] [] ∷ []) x) (numbered_digits_again content n is.1 some small) ∙ content_free content is.0))

  content_goes : (content : List ℕ) → IsContent content → Goes (objects_in d (above ++ object n [] [] ∷ [])) (content_lines n content) (objects_in d (above ++ object n content [] ∷ []))
  content_goes [] is = refl
  content_goes (b ∷ content) is = (objects_in d (above ++ object n (b ∷ content) [] ∷ []), content_taken (b ∷ content) is (omega arith), refl)

  -- ---- the line of an entry

  module _ (are : AreLabels d.labels) (content : List ℕ) where
    module _ (done : List Grant) (g : Grant) (fits : FitsGrant g) (few : length done < MAX_ENTRIES) where
      abbrev line : List ℕ
      line = allow_line d.labels n g

      abbrev who : List ℕ
      who = principal_text d.labels g.who

      abbrev rights : List ℕ
      rights = rights_text g.rights

      is_rights : IsWord rights
      is_rights = rights_word g.rights fits.rights.0 fits.rights.1

      entry_plain : is_plain (decimal n ++ 32 ∷ (rights ++ 32 ∷ who)) ≡ true
      entry_plain =
          plain_append (decimal n) (32 ∷ (rights ++ 32 ∷ who)) (decimal_word n (omega (arith, small))).plain (plain_append rights (32 ∷ who) is_rights.plain (text_shown d.labels are false g.who fits.who.numbers).plain)

      parted : two_and_rest (32 ∷ (decimal n ++ 32 ∷ (rights ++ 32 ∷ who))) ≡ Ok (decimal n, rights, 32 ∷ who)
      unfolding two_and_rest
      parted =
          let some : ltb 0 (length (unblanked who)) ≡ true = lt-ltb 0 (length (unblanked who)) (text_shown d.labels are false g.who fits.who.numbers).some in
          let given : List ℕ × List ℕ → List ℕ × List ℕ → Result (List ℕ × List ℕ × List ℕ) FileCause = λ a b. cond (ltb 0 (length (unblanked b.1))) (Ok (a.0, b.0, b.1)) (Err Words) in
          ap (λ (a : List ℕ × List ℕ). given a (word_off a.1)) (word_next (decimal n) (rights ++ 32 ∷ who) (decimal_word n (omega (arith, small))))
          ∙ ap (λ (b : List ℕ × List ℕ). given (decimal n, 32 ∷ (rights ++ 32 ∷ who)) b) (word_next rights who is_rights)
          ∙ (rw some refl)

      granted_again : granted (32 ∷ (decimal n ++ 32 ∷ (rights ++ 32 ∷ who))) ≡ Ok (n, g.rights, 32 ∷ who)
      unfolding granted
      granted_again =
          ap (λ r. r >>= λ w. number_up_to 4294967295 w.0 >>= λ n. some_or Rights (rights_of w.1) >>= λ rights. Ok (n, rights, w.2)) parted
          ∙ ap (λ r. r >>= λ n. some_or Rights (rights_of rights) >>= λ rights. Ok (n, rights, 32 ∷ who)) (number_again 4294967295 n small (omega (arith, small)))
          ∙ ap (λ (o : Option ℕ). some_or Rights o >>= λ rights. Ok (n, rights, 32 ∷ who)) (rights_again g.rights (omega (arith, fits.rights.1)) (omega (arith, fits.rights.0))).0

      entry_free : grants_and d.labels (above ++ object n content done ∷ []) (n, g.rights, 32 ∷ who) ≡ Ok (above ++ object n content (done ++ g ∷ []) ∷ [])
      unfolding grants_and
      entry_free =
          let left : leb MAX_ENTRIES (length done) ≡ false = grind (arith, nat_tests, few) in
          rw (last_found above (object n content done) new, who_again d.labels g.who are fits.who, left, last_changed above (object n content done) (with_grant g) new) refl

      entry_taken : Takes (objects_in d (above ++ object n content done ∷ [])) line (objects_in d (above ++ object n content (done ++ g ∷ []) ∷ []))
      entry_taken =
          takes_line (objects_in d (above ++ object n content done ∷ [])) (objects_in d (above ++ object n content (done ++ g ∷ []) ∷ [])) kinds.Allow (decimal n ++ 32 ∷ (rights ++ 32 ∷ who)) entry_plain
          (ap (with_value (objects_in d)) (ap (λ r. r >>= λ x. grants_and d.labels (above ++ object n content done ∷ []) x) granted_again ∙ entry_free))

    entries_go : (done rest : List Grant) → IsAccessList (done ++ rest) → Goes (objects_in d (above ++ object n content done ∷ [])) (map (allow_line d.labels n) rest) (objects_in d (above ++ object n content (done ++ rest) ∷ []))
    entries_go =
        each_taken (λ (l : List Grant). objects_in d (above ++ object n content l ∷ [])) IsAccessList (allow_line d.labels n)
        (λ done g rest is. entry_taken done g (this_one FitsGrant done g rest is.1) (fewer done g rest MAX_ENTRIES is.0))

  -- ---- all its lines

  object_goes : AreLabels d.labels → (content : List ℕ) (list : List Grant) → IsContent content → IsAccessList list → Goes (objects_in d above) (object_lines d.labels (object n content list)) (objects_in d (above ++ object n content list ∷ []))
  object_goes are content list is_content is_list = (
    objects_in d (above ++ object n [] [] ∷ []),
    object_taken,
    goes_append (content_lines n content) (map (allow_line d.labels n) list) (objects_in d (above ++ object n [] [] ∷ [])) (objects_in d (above ++ object n content [] ∷ [])) (objects_in d (above ++ object n content list ∷ []))
        (content_goes content is_content) (entries_go are content [] list is_list),
  )

pub objects_go : (d : Draft) → AreLabels d.labels → (above rest : List ObjectPlan) → AreFew MAX_OBJECTS FitsObject (λ p q. p.number ≢ q.number) (above ++ rest) → Goes (objects_in d above) (flat_map (object_lines d.labels) rest) (objects_in d (above ++ rest))
objects_go d are_labels =
    each_goes (objects_in d) (AreFew MAX_OBJECTS FitsObject (λ p q. p.number ≢ q.number)) (object_lines d.labels)
    (λ above p rest are.
    let fits = this_one FitsObject above p rest are.fit in
    let new = AllPairs-before (λ (p : ObjectPlan) (q : ObjectPlan). p.number ≢ q.number) above p rest are.apart in
    object_goes above p.number new (fewer above p rest MAX_OBJECTS are.few) (omega (arith, fits.number)) d are_labels p.content p.list fits.content fits.list)
