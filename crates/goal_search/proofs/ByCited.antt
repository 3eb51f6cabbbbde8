-- Rows of numbers, where each certificate is given by its numbers.
use Rattle.std.proofs.Common.{◌≡◌, ◌⊎◌, inl, ℕ, ◌<◌, List, slice_get, Some, Option, None, refl, sym, ◌∙◌, ap, subst, length, map, All}
use Rattle.std.specs.Prelude.{option_map}
use Rattle.std.proofs.lemmas.Option.{same_Some, slice_get-map}
use Rattle.taos_calculus.specs.declared.line.Node.{Node}
use Rattle.taos_calculus.specs.Rules.{Claim}
use Rattle.taos_calculus.specs.Tables.{named, IsNodeTable}
use Rattle.taos_calculus.proofs.Induction.{All-at}
use Rattle.taos_calculus.proofs.Naming.{named_apart}
use Rattle.term_pool.specs.declared.cited.Cited.{Cited}
use Rattle.term_pool.specs.Claims.{CitedIn, claim_by}
use Rattle.goal_search.specs.Goals.{WhoSays}
use Rattle.goal_search.specs.NumberedRows.{IsNamed, BeginsAt, IsUnheardAt, IsHandedAt, HaveLeftsNumbers}

module _ (nodes : List Node) (table : IsNodeTable nodes) (cited : List Cited) (within : All (CitedIn (length nodes)) cited) where
  -- what the certificates say
  abbrev pub claims : List Claim
  claims = map (claim_by (named nodes)) cited

  -- a claim by the numbers of its certificate
  pub record IsCitedAt (i : ℕ) (claim : Claim) : Type 0 where
    pub c : Cited
    pub stands : slice_get cited i ≡ Some c
    pub speaker : IsNamed nodes c.speaker claim.speaker
    pub left : IsNamed nodes c.left claim.left
    pub right : IsNamed nodes c.right claim.right

  pub cited_at : (i : ℕ) (claim : Claim) → slice_get claims i ≡ Some claim → IsCitedAt i claim
  cited_at i claim e = go (slice_get cited i) refl
    where
      go : (o : Option Cited) → slice_get cited i ≡ o → IsCitedAt i claim
      go None q =
          let n : slice_get claims i ≡ None = slice_get-map (claim_by (named nodes)) cited i ∙ ap (option_map (claim_by (named nodes))) q in
          absurd (cc)
      go (Some c) q =
          let n : slice_get claims i ≡ Some (claim_by (named nodes) c) = slice_get-map (claim_by (named nodes)) cited i ∙ ap (option_map (claim_by (named nodes))) q in
          let is : claim_by (named nodes) c ≡ claim = same_Some (claim_by (named nodes) c) claim (sym n ∙ e) in
          let h : CitedIn (length nodes) c = All-at (CitedIn (length nodes)) cited i c within q in
          record {
            c = c;
            stands = q;
            speaker = (h.speaker, ap (λ (x : Claim). x.speaker) is);
            left = (h.left, ap (λ (x : Claim). x.left) is);
            right = (h.right, ap (λ (x : Claim). x.right) is);
          }

  -- the number of a side of a certificate is the one of its principal
  same_side : (i j : ℕ) → i < length nodes → j < length nodes → named nodes i ≡ named nodes j → i ≡ j
  same_side i j h k e = named_apart nodes table i j h k e

  -- each certificate's left side has a number
  pub cited_lefts : HaveLeftsNumbers nodes claims
  cited_lefts i claim e = let k : IsCitedAt i claim = cited_at i claim e in inl (k.c.left, k.left)

  module _ {X : Type 0} (Has : X → ℕ → Type 0) where
    -- a row that has the speakers of the certificates with these sides begins as that statement's does
    pub begins_cited : (l r : ℕ) (x : X) → l < length nodes → r < length nodes →
        ((i : ℕ) (c : Cited) → slice_get cited i ≡ Some c → c.left ≡ l → c.right ≡ r → Has x c.speaker) →
        BeginsAt nodes claims Has (WhoSays l r) x
    begins_cited l r x hl hr has i claim e p q =
        let k : IsCitedAt i claim = cited_at i claim e in
        let el : k.c.left ≡ l = same_side k.c.left l k.left.0 hl (k.left.1 ∙ p) in
        let er : k.c.right ≡ r = same_side k.c.right r k.right.0 hr (k.right.1 ∙ q) in
        (k.c.speaker, k.speaker, has i k.c k.stands el er)

    -- what is settled of each certificate by its numbers is settled of its claim
    pub handed_cited : (Finished : X → Type 0) (x : X) →
        ((i : ℕ) (c : Cited) → slice_get cited i ≡ Some c → Has x c.left → Has x c.right ⊎ IsUnheardAt nodes claims Finished Has c.left c.right) →
        (i l : ℕ) (claim : Claim) → slice_get claims i ≡ Some claim → IsNamed nodes l claim.left → Has x l → IsHandedAt nodes claims Finished Has x claim l
    handed_cited Finished x settled i l claim e n h =
        let k : IsCitedAt i claim = cited_at i claim e in
        let el : k.c.left ≡ l = same_side k.c.left l k.left.0 n.0 (k.left.1 ∙ sym n.1) in
        record {
          right = k.c.right;
          right_is = k.right;
          handed = subst (λ m. Has x k.c.right ⊎ IsUnheardAt nodes claims Finished Has m k.c.right) el
              (settled i k.c k.stands (subst (Has x) (sym el) h));
        }
