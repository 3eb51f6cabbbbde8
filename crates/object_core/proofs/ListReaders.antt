-- Contents and access lists: what is read is spelled so, and the other way.
use Rattle.std.proofs.Common.{◌≡◌, ℕ, ◌+◌, ◌≤◌, leb, List, ◌++◌, length, drop, Ok, refl, sym, ap, subst, arith}
use Rattle.std.specs.Int.{w16, to_be_bytes}
use Rattle.std.proofs.lemmas.Bool.{leb-true, le-leb}
use Rattle.object_core.specs.declared.limits.TheConstants.{MAX_CONTENT, MAX_ENTRIES, MAX_RIGHTS}
use Rattle.object_core.specs.Operation.{FitsGrant, IsContent, IsAccessList}
use Rattle.object_core.specs.Reading.{content_at, entry_at, list_at}
use Rattle.object_core.specs.Spelling.{content_bytes, grant_bytes, list_bytes, IsContentAt, IsListAt}
use Rattle.byte_fields.specs.declared.fault.FormatFault.TheVariants.{Malformed}
use Rattle.prin_term.specs.declared.limits.TheConstants.{ENTRY_NODES}
use Rattle.byte_fields.specs.Formats.{ended}
use Rattle.prin_term.specs.TermFields.{seen_as}
use Rattle.prin_term.specs.View.{Grant}
use Rattle.byte_fields.proofs.FieldLaws.{IsBytes}
use Rattle.prin_term.proofs.TermReaders.{reads_term}
use Rattle.byte_fields.proofs.FormatFields.{reads_u8, reads_u16, reads_u8_in}
use Rattle.byte_fields.proofs.ReaderLaws.{Reads, reads_bytes, reads_followed, reads_passing, reads_made, reads_each}

module _ (bytes : List ℕ) where
  pub reads_content : Reads bytes (content_at bytes) content_bytes IsContent
  unfolding content_at
  reads_content =
      reads_made (λ (p : ℕ × List ℕ). p.1) (λ (text : List ℕ). (length text, text)) content_bytes IsContent
      (reads_followed (reads_passing (λ n. leb n MAX_CONTENT) Malformed (reads_u16 bytes)) (λ n _. reads_bytes (ended bytes) n bytes))
      (λ p is. ((subst (λ (k : ℕ). k ≤ MAX_CONTENT) (sym is.1.0) (leb-true p.0 MAX_CONTENT is.0.1), is.1.1), ap (λ (k : ℕ). to_be_bytes w16 k ++ p.1) (sym is.1.0)))
      (λ text is. (((omega (arith, is.0), le-leb (length text) MAX_CONTENT is.0), (refl, is.1)), refl, refl))

  pub reads_entry : Reads bytes (entry_at bytes) grant_bytes FitsGrant
  unfolding entry_at
  reads_entry =
      reads_made (λ x. record { rights = x.0; who = x.1 }) (λ (g : Grant). (g.rights, g.who)) grant_bytes FitsGrant
      (reads_followed (reads_u8_in bytes 1 MAX_RIGHTS (omega arith)) (λ _ _. reads_term seen_as ENTRY_NODES bytes))
      (λ x is. (record { rights = is.0; who = is.1 }, refl))
      (λ g is. ((is.rights, is.who), refl, refl))

  pub reads_list : Reads bytes (list_at bytes) list_bytes IsAccessList
  unfolding list_at
  reads_list = reads_each MAX_ENTRIES 256 Malformed grant_bytes FitsGrant (omega arith) (reads_u8 bytes) reads_entry

  -- ---- as the laws say it

  pub content_takes : IsBytes bytes → (content : List ℕ) (at end : ℕ) → at ≤ length bytes → content_at bytes at ≡ Ok (content, end) → IsContentAt bytes at content × (end ≡ at + length (content_bytes content))
  content_takes ok content at end le e =
      let t = reads_content.takes ok at (content, end) le e in
      (record { text = (drop end bytes, t.0.parts); limits = t.1 }, t.0.end_is)

  pub content_again : (content : List ℕ) (at end : ℕ) → IsContentAt bytes at content → end ≡ at + length (content_bytes content) → content_at bytes at ≡ Ok (content, end)
  content_again content at end is place =
      rw place (reads_content.again at content is.text.0 is.limits is.text.1)

  pub list_takes : IsBytes bytes → (list : List Grant) (at end : ℕ) → at ≤ length bytes → list_at bytes at ≡ Ok (list, end) → IsListAt bytes at list × (end ≡ at + length (list_bytes list))
  list_takes ok list at end le e =
      let t = reads_list.takes ok at (list, end) le e in
      (record { text = (drop end bytes, t.0.parts); limits = t.1 }, t.0.end_is)

  pub list_again : (list : List Grant) (at end : ℕ) → IsListAt bytes at list → end ≡ at + length (list_bytes list) → list_at bytes at ≡ Ok (list, end)
  list_again list at end is place =
      rw place (reads_list.again at list is.text.0 is.limits is.text.1)
