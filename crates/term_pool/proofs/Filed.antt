-- Nodes in buckets: one is looked for, one more is filed, and all are forgotten.
use Rattle.std.proofs.Common.{◌≡◌, ◌≢◌, ◌⊎◌, inl, inr, ℕ, zero, suc, ◌+◌, ◌%◌, ◌<◌, ◌≤◌, List, [], ◌∷◌, ◌++◌, Some, slice_get, slice_index, set, length, refl, sym, ◌∙◌, ap, subst, arith}
use Rattle.std.proofs.lemmas.List.{get_or-set_same, get_or-set_other, get_or_append_left, length-append, length-set}
use Rattle.std.proofs.lemmas.Option.{none-some, same_Some, slice_get_within}
use Rattle.std.proofs.Math.Seq.{get_or-append_seam}
use Rattle.taos_calculus.specs.declared.line.Node.{Node}
use Rattle.taos_calculus.proofs.Building.{slice_get-front, slice_get-back}
use Rattle.term_pool.specs.Filing.{mark_of, bucket_of, IsInBucket, LeadsTo, IsFiled}
use Rattle.term_pool.proofs.Interned.{pushed_at}
use Rattle.term_pool.proofs.Orders.{same_or_not}

-- what the bucket of a node is
pub bucket-is : (count : ℕ) (node : Node) → mark_of node % count ≡ bucket_of count node
unfolding bucket_of
bucket-is count node = refl

-- the node, if it is there, comes before the link, which leads to a node of its bucket
pub record IsOn (nodes : List Node) (count : ℕ) (node : Node) (link : ℕ) : Type 0 where
  pub low : (i : ℕ) → slice_get nodes i ≡ Some node → i < link
  pub there : (k : ℕ) → link ≡ suc k → (k < length nodes) × IsInBucket nodes count (bucket_of count node) k

module _ (nodes : List Node) (links heads : List ℕ) (filed : IsFiled nodes links heads) where
  abbrev count : ℕ
  count = length heads

  pub on_start : (node : Node) → bucket_of (length heads) node < length heads → IsOn nodes (length heads) node (slice_index heads (bucket_of (length heads) node))
  on_start node h =
      let l : LeadsTo nodes count (length nodes) (bucket_of count node) (slice_index heads (bucket_of count node)) = filed.heads_lead (bucket_of count node) h in
      record {
        low = λ i e. l.last i (slice_get_within nodes i node e) (record { node = node; stands = e; bucket_is = refl });
        there = l.there;
      }

  -- a node's link leads lower
  pub link_less : (k : ℕ) (node : Node) → slice_get nodes k ≡ Some node → slice_index links k ≤ k
  link_less k node e = go (slice_index links k) refl
    where
      go : (n : ℕ) → slice_index links k ≡ n → slice_index links k ≤ k
      go zero q = omega arith
      go (suc m) q = let (h, b) = (filed.links_lead k node e).there m q in omega arith

  pub on_next : (node : Node) (k : ℕ) → IsOn nodes (length heads) node (suc k) → (slice_get nodes k ≡ Some node → ⊥) → IsOn nodes (length heads) node (slice_index links k)
  on_next node k on ne =
      let (inside, b) = on.there k refl in
      let l : LeadsTo nodes count k (bucket_of count b.node) (slice_index links k) = filed.links_lead k b.node b.stands in
      record {
        low = λ i e. low i e b l (same_or_not i k);
        there = λ m q.
            let (h, t) = l.there m q in
            (omega arith, record { node = t.node; stands = t.stands; bucket_is = t.bucket_is ∙ b.bucket_is });
      }
    where
      low : (i : ℕ) → slice_get nodes i ≡ Some node → (b : IsInBucket nodes (length heads) (bucket_of (length heads) node) k) →
          LeadsTo nodes (length heads) k (bucket_of (length heads) b.node) (slice_index links k) → (i ≡ k) ⊎ (i ≢ k) → i < slice_index links k
      low i e b l (inl q) = absurd (ne (subst (λ n. slice_get nodes n ≡ Some node) q e))
      low i e b l (inr n) = l.last i (omega (arith, on.low i e)) (record { node = node; stands = e; bucket_is = sym b.bucket_is })

-- a chain is as it was behind one node more
leads_front : (nodes : List Node) (count n bucket link : ℕ) (x : Node) → n ≤ length nodes → LeadsTo nodes count n bucket link → LeadsTo (nodes ++ x ∷ []) count n bucket link
leads_front nodes count n bucket link x h l = record {
  last = λ i low b. l.last i low (back i b low (pushed_at nodes x b.node i b.stands));
  there = λ k e. let (low, b) = l.there k e in (low, record { node = b.node; stands = slice_get-front nodes (x ∷ []) k b.node b.stands; bucket_is = b.bucket_is });
}
  where
    back : (i : ℕ) (b : IsInBucket (nodes ++ x ∷ []) count bucket i) → i < n → (slice_get nodes i ≡ Some b.node) ⊎ ((i ≡ length nodes) × (x ≡ b.node)) → IsInBucket nodes count bucket i
    back i b low (inl e) = record { node = b.node; stands = e; bucket_is = b.bucket_is }
    back i b low (inr q) = absurd (omega (arith, q.0))

module _ (nodes : List Node) (links heads : List ℕ) (filed : IsFiled nodes links heads) (node : Node) (at : ℕ) (at_is : at ≡ bucket_of (length heads) node) (at_in : at < length heads) where
  abbrev more : List Node
  more = nodes ++ node ∷ []

  abbrev heads' : List ℕ
  heads' = set heads at (length nodes + 1)

  old_head : LeadsTo nodes (length heads) (length nodes) at (slice_index heads at)
  old_head = filed.heads_lead at at_in

  longer : length more ≡ length nodes + 1
  longer = length-append nodes (node ∷ [])

  head_same : LeadsTo more (length heads) (length more) at (length nodes + 1)
  head_same = record {
    last = λ i low b. omega (arith, longer);
    there = λ k e. (
      omega (arith, longer),
      record { node = node; stands = slice_get-back nodes (node ∷ []) 0 k (omega arith); bucket_is = sym at_is },
    );
  }

  head_other : (bucket : ℕ) → bucket < length heads → bucket ≢ at → LeadsTo more (length heads) (length more) bucket (slice_index heads bucket)
  head_other bucket h ne =
      let l : LeadsTo nodes (length heads) (length nodes) bucket (slice_index heads bucket) = filed.heads_lead bucket h in
      record {
        last = λ i low b. before i b l (pushed_at nodes node b.node i b.stands);
        there = λ k e.
            let (low, b) = l.there k e in
            (omega (arith, longer), record { node = b.node; stands = slice_get-front nodes (node ∷ []) k b.node b.stands; bucket_is = b.bucket_is });
      }
    where
      before : (i : ℕ) (b : IsInBucket (nodes ++ node ∷ []) (length heads) bucket i) → LeadsTo nodes (length heads) (length nodes) bucket (slice_index heads bucket) →
          (slice_get nodes i ≡ Some b.node) ⊎ ((i ≡ length nodes) × (node ≡ b.node)) → i < slice_index heads bucket
      before i b l (inl e) = l.last i (slice_get_within nodes i b.node e) (record { node = b.node; stands = e; bucket_is = b.bucket_is })
      before i b l (inr q) = absurd (ne (sym b.bucket_is ∙ ap (λ (n : Node). bucket_of (length heads) n) (sym q.1) ∙ sym at_is))

  heads_more : (bucket : ℕ) → bucket < length heads → LeadsTo more (length heads) (length more) bucket (slice_index heads' bucket)
  heads_more bucket h = go (same_or_not bucket at)
    where
      go : (bucket ≡ at) ⊎ (bucket ≢ at) → LeadsTo (nodes ++ node ∷ []) (length heads) (length (nodes ++ node ∷ [])) bucket (slice_index (set heads at (length nodes + 1)) bucket)
      go (inl q) = rw (q, get_or-set_same heads at (length nodes + 1) 0 at_in) head_same
      go (inr ne) = rw (get_or-set_other heads at bucket (length nodes + 1) 0 ne) (head_other bucket h ne)

  links_more : (i : ℕ) (x : Node) → slice_get more i ≡ Some x → LeadsTo more (length heads) i (bucket_of (length heads) x) (slice_index (links ++ slice_index heads at ∷ []) i)
  links_more i x e = go (pushed_at nodes node x i e)
    where
      go : (slice_get nodes i ≡ Some x) ⊎ ((i ≡ length nodes) × (node ≡ x)) →
          LeadsTo (nodes ++ node ∷ []) (length heads) i (bucket_of (length heads) x) (slice_index (links ++ slice_index heads at ∷ []) i)
      go (inl h) =
          let low : i < length nodes = slice_get_within nodes i x h in
          rw (get_or_append_left links (slice_index heads at ∷ []) 0 i (omega (arith, filed.long)))
          (leads_front nodes (length heads) i (bucket_of (length heads) x) (slice_index links i) node (omega arith) (filed.links_lead i x h))
      go (inr (q, s)) =
          let end : i ≡ length links = q ∙ sym filed.long in
          let read : slice_index (links ++ slice_index heads at ∷ []) i ≡ slice_index heads at
          = ap (λ n. slice_index (links ++ slice_index heads at ∷ []) n) end ∙ get_or-append_seam links (slice_index heads at) [] 0 in
          let l : LeadsTo (nodes ++ node ∷ []) (length heads) (length nodes) at (slice_index heads at)
          = leads_front nodes (length heads) (length nodes) at (slice_index heads at) node (omega arith) old_head in
          let is : at ≡ bucket_of (length heads) x = at_is ∙ ap (λ (n : Node). bucket_of (length heads) n) s in
          rw (read, q, ← is) l

  pub filed_more : IsFiled (nodes ++ node ∷ []) (links ++ slice_index heads at ∷ []) (set heads at (length nodes + 1))
  filed_more =
      let same : length heads' ≡ length heads = length-set heads at (length nodes + 1) in
      record {
        some_bucket = omega (arith, filed.some_bucket, same);
        long = omega (arith, filed.long, longer, length-append links (slice_index heads at ∷ []));
        heads_lead = rw same heads_more;
        links_lead = rw same links_more;
      }

-- what is left to forget: the nodes from i on
pub record IsLeft (nodes : List Node) (count i : ℕ) (heads : List ℕ) : Type 0 where
  pub long : length heads ≡ count
  pub left : (bucket k : ℕ) → bucket < count → slice_index heads bucket ≡ suc k → (i ≤ k) × (k < length nodes) × IsInBucket nodes count bucket k

pub left_all : (nodes : List Node) (links heads : List ℕ) → IsFiled nodes links heads → IsLeft nodes (length heads) 0 heads
left_all nodes links heads filed = record {
  long = refl;
  left = λ bucket k h e. let (low, b) = (filed.heads_lead bucket h).there k e in (omega arith, low, b);
}

pub left_less : (nodes : List Node) (count i : ℕ) (heads : List ℕ) (node : Node) (at : ℕ) → at ≡ bucket_of count node → at < count →
    slice_get nodes i ≡ Some node → IsLeft nodes count i heads → IsLeft nodes count (i + 1) (set heads at 0)
left_less nodes count i heads node at at_is at_in stands l = record {
  long = length-set heads at 0 ∙ l.long;
  left = λ bucket k h e. go bucket k h e (same_or_not bucket at);
}
  where
    later : (bucket k : ℕ) → (bucket ≢ at) → (i ≤ k) → IsInBucket nodes count bucket k → (k ≡ i) ⊎ (k ≢ i) → i + 1 ≤ k
    later bucket k ne h b (inl q) =
        let same : b.node ≡ node = same_Some b.node node (sym b.stands ∙ ap (λ n. slice_get nodes n) q ∙ stands) in
        absurd (ne (sym b.bucket_is ∙ ap (λ (n : Node). bucket_of count n) same ∙ sym at_is))
    later bucket k ne h b (inr n) = omega arith

    go : (bucket k : ℕ) → bucket < count → slice_index (set heads at 0) bucket ≡ suc k → (bucket ≡ at) ⊎ (bucket ≢ at) → (i + 1 ≤ k) × (k < length nodes) × IsInBucket nodes count bucket k
    go bucket k h e (inl q) =
        let none : slice_index (set heads at 0) bucket ≡ 0 = ap (λ n. slice_index (set heads at 0) n) q ∙ get_or-set_same heads at 0 0 (omega (arith, l.long)) in
        absurd (omega arith)
    go bucket k h e (inr ne) =
        let (low, inside, b) = l.left bucket k h (sym (get_or-set_other heads at bucket 0 0 ne) ∙ e) in
        (later bucket k ne low b (same_or_not k i), inside, b)

pub left_none : (nodes : List Node) (count i : ℕ) (heads : List ℕ) → length nodes ≤ i → IsLeft nodes count i heads → (bucket : ℕ) → bucket < count → slice_index heads bucket ≡ 0
left_none nodes count i heads h l bucket inside = go (slice_index heads bucket) refl
  where
    go : (n : ℕ) → slice_index heads bucket ≡ n → slice_index heads bucket ≡ 0
    go zero e = e
    go (suc k) e = let (low, high, b) = l.left bucket k inside e in absurd (omega arith)

-- where every head is 0 no node is filed
pub filed_none : (heads : List ℕ) → 0 < length heads → ((bucket : ℕ) → bucket < length heads → slice_index heads bucket ≡ 0) → IsFiled [] [] heads
filed_none heads some none = record {
  some_bucket = some;
  long = refl;
  heads_lead = λ bucket h. record {
    last = λ i low b. absurd (omega arith);
    there = λ k e. absurd (omega (arith, none bucket h));
  };
  links_lead = λ i node e. absurd (none-some node e);
}
