-- What a node left is legal.
use Rattle.std.proofs.Common.{◌≡◌, ◌≢◌, inl, inr, ℕ, zero, suc, ◌<◌, ◌≤◌, true, false, eqb, List, [], ◌∷◌, ◌++◌, length, map, Some, slice_get, refl, sym, ap, subst, subst₂, ◌∙◌, arith, append_assoc, length-append}
use Rattle.std.specs.Prelude.{AllPairs}
use Rattle.std.proofs.lemmas.Bool.Decides.{nat_tests}
use Rattle.std.proofs.lemmas.List.{length-map}
use Rattle.std.proofs.lemmas.List.FromFn.{get_or-map-range_with_len, length-map-range_with_len}
use Rattle.std.proofs.lemmas.List.Kept.{AllPairs-cons}
use Rattle.std.proofs.lemmas.Option.{same_Some, slice_get-get_or, slice_get_within}
use Rattle.object_core.specs.Objects.{ObjectEntry}
use Rattle.object_core.specs.Shelving.{HaveOwnNumbers, ObjectFixed, fixed_at, numbers_of}
use Rattle.agent_core.specs.Journals.{Entry, IsLegalJournal}
use Rattle.agent_core.specs.State.{Plan}
use Rattle.journal_bytes.specs.Spelled.{ObjectJournal, numbered, spelled}
use Rattle.audit_replay.specs.Legal.{AreLegal, AreRuled, HasCells, IsRuled, IsRuledObject, all_named, named}
use Rattle.audit_replay.specs.Replays.{AreReplayed, entries_in, judged, legal}
use Rattle.audit_replay.specs.declared.replayed.Replayed.{Replayed}
use Rattle.audit_replay.proofs.Splits.{mapped_at, same_parts}
use Rattle.request_course.specs.Cells.{Journals, Node, OfObject, Place, in_object, in_shard}
use Rattle.request_course.specs.Run.{IsCourse, Turn}
use Rattle.node_journals.specs.Works.{In}
use Rattle.node_journals.proofs.Members.{all_in, in_all, in_either, in_flat}
use Rattle.node_journals.proofs.Ordering.{pairs_first, pairs_tail}
use Rattle.node_journals.specs.Left.{cells_in, journals_left, objects_of, shards_left}
use Rattle.node_journals.specs.LeftLaws.{AreLegalBeside, AreReplayedLegal}
use Rattle.taos_lanes.proofs.Numbered.{found_by_number}
use Rattle.node_journals.proofs.Owning.{Came, one_turn}
use Rattle.node_journals.proofs.Rulings.{RuledAt, ruled_at}

-- ---- the shards

shard_at : (n : Node) (J : Journals) (s : ℕ) (plan : Plan) → slice_get n.plans s ≡ Some plan → slice_get (shards_left n J) s ≡ Some (J.shards s)
shard_at n J s plan at =
    let below : s < length n.plans = slice_get_within n.plans s plan at in
    slice_get-get_or (shards_left n J) s (J.shards s) (omega (arith, below, length-map-range_with_len J.shards 0 (length n.plans))) ∙ ap (λ (l : List Entry). Some l) (get_or-map-range_with_len J.shards 0 (length n.plans) s s (J.shards s) below (omega arith))

module _ (n : Node) (own : HaveOwnNumbers n.objects) (J : Journals) (c : Came n J) where
  shards_legal : AreLegal n.plans (shards_left n J)
  shards_legal i plan journal at stands =
      let one : J.shards i ≡ journal = same_Some (J.shards i) journal (sym (shard_at n J i plan at) ∙ stands) in
      subst (IsLegalJournal plan) one (c.legal.shards i plan at)

  -- ---- the entries of objects

  -- the request that the entry is of
  pub record OwnRuling (number at : ℕ) : Type 0 where
    pub turn : Turn
    pub is_turn : In turn c.turns
    pub owned : In (in_object number at) turn.used.places
    pub ruling : RuledAt n J number at turn.used.places

  own_ruling : (number at : ℕ) → at < length (J.objects number) → OwnRuling number at
  own_ruling number at below =
      let (t, is, owned) = in_flat (λ (u : Turn). u.used.places) c.turns (in_object number at) (c.each (OfObject number) at below) in
      let course : IsCourse n J t = all_in (IsCourse n J) c.turns t c.courses is in
      record { turn = t; is_turn = is; owned = owned; ruling = ruled_at n J t.frame t.used t.sent number at course owned }

  -- it is the entry that stands there
  entry_is : (number : ℕ) (before rest : List ObjectEntry) (e : ObjectEntry) → J.objects number ≡ before ++ e ∷ rest → (r : OwnRuling number (length before)) → (r.ruling.before ≡ before) × (r.ruling.e ≡ e)
  entry_is number before rest e is r =
      let parts = same_parts r.ruling.before before r.ruling.e e r.ruling.stands.rest rest (sym r.ruling.stands.is ∙ is) r.ruling.stands.placed in
      (parts.0, parts.1)

  below_end : (number : ℕ) (before rest : List ObjectEntry) (e : ObjectEntry) → J.objects number ≡ before ++ e ∷ rest → length before < length (J.objects number)
  below_end number before rest e is = omega (arith, ap (λ (l : List ObjectEntry). length l) is, length-append before (e ∷ rest))

  is_ruled : (f : ObjectFixed) → fixed_at n.objects f.plan.number ≡ Some f → (before rest : List ObjectEntry) (e : ObjectEntry) → J.objects f.plan.number ≡ before ++ e ∷ rest → IsRuled (cells_in n) (shards_left n J) f.plan before e
  is_ruled f found before rest e is =
      let r = own_ruling f.plan.number (length before) (below_end f.plan.number before rest e is) in
      let g = r.ruling in
      let (fronts, here) = entry_is f.plan.number before rest e is r in
      let object : g.object ≡ f = same_Some g.object f (sym g.there ∙ found) in
      let one : IsRuled (cells_in n) (shards_left n J) g.object.plan g.before g.e = record {
        names = record {
          plan = g.plan;
          journal = J.shards g.e.shard;
          asked = g.asked;
          told = g.told;
          plan_is = g.planned;
          journal_is = shard_at n J g.e.shard g.plan g.planned;
          stands = g.asks;
          judged = g.judged;
          right = g.right;
          list = g.list;
        };
        due = g.due;
      } in
      subst (λ (x : ObjectFixed). IsRuled (cells_in n) (shards_left n J) x.plan before e) object
      (subst₂ (λ (b : List ObjectEntry) (x : ObjectEntry). IsRuled (cells_in n) (shards_left n J) g.object.plan b x) fronts here one)

  -- ---- no two entries name one Ask

  names_once : (number at m j : ℕ) → (r : OwnRuling number at) → (s : OwnRuling m j) → named r.ruling.e ≡ named s.ruling.e → (m ≡ number) × (j ≡ at)
  names_once number at m j r s same =
      let asked : in_shard r.ruling.e.shard r.ruling.e.place ≡ in_shard s.ruling.e.shard s.ruling.e.place = ap (λ (x : ℕ × ℕ). in_shard x.0 x.1) same in
      let also : In (in_shard r.ruling.e.shard r.ruling.e.place) s.turn.used.places = subst (λ (p : Place). In p s.turn.used.places) (sym asked) s.ruling.ask_own in
      let one : r.turn ≡ s.turn = one_turn c.turns c.apart (in_shard r.ruling.e.shard r.ruling.e.place) r.turn s.turn r.is_turn s.is_turn r.ruling.ask_own also in
      r.ruling.only m j (subst (λ (t : Turn). In (in_object m j) t.used.places) (sym one) s.owned)

  -- a name of an object's entries behind a front
  pub record NamedAt (number : ℕ) (x : ℕ × ℕ) : Type 0 where
    pub before : List ObjectEntry
    pub e : ObjectEntry
    pub rest : List ObjectEntry
    pub is : J.objects number ≡ before ++ e ∷ rest
    pub name : named e ≡ x

  named_at : (number : ℕ) (front rest : List ObjectEntry) → J.objects number ≡ front ++ rest → (x : ℕ × ℕ) → In x (map named rest) → (d : NamedAt number x) × (length front ≤ length d.before)
  named_at number front [] is x h = absurd h
  named_at number front (e ∷ rest) is x (inl same) = (record { before = front; e = e; rest = rest; is = is; name = same }, omega arith)
  named_at number front (e ∷ rest) is x (inr later) =
      let more : J.objects number ≡ (front ++ e ∷ []) ++ rest = is ∙ sym (append_assoc front (e ∷ []) rest) in
      let (d, long) = named_at number (front ++ e ∷ []) rest more x later in
      (d, omega (arith, long, length-append front (e ∷ [])))

  apart_places : (number m : ℕ) (x : ℕ × ℕ) → (d : NamedAt number x) → (k : NamedAt m x) → (m ≡ number) × (length k.before ≡ length d.before)
  apart_places number m x d k =
      let r = own_ruling number (length d.before) (below_end number d.before d.rest d.e d.is) in
      let s = own_ruling m (length k.before) (below_end m k.before k.rest k.e k.is) in
      let first = entry_is number d.before d.rest d.e d.is r in
      let second = entry_is m k.before k.rest k.e k.is s in
      names_once number (length d.before) m (length k.before) r s (ap named first.1 ∙ d.name ∙ sym k.name ∙ sym (ap named second.1))

  names_apart : (number : ℕ) (front rest : List ObjectEntry) → J.objects number ≡ front ++ rest → AllPairs (λ (x y : ℕ × ℕ). x ≢ y) (map named rest)
  names_apart number front [] is = λ i j d less within. absurd (omega arith)
  names_apart number front (e ∷ rest) is =
      let more : J.objects number ≡ (front ++ e ∷ []) ++ rest = is ∙ sym (append_assoc front (e ∷ []) rest) in
      AllPairs-cons (λ (x y : ℕ × ℕ). x ≢ y) (named e) (map named rest)
      (in_all (λ (y : ℕ × ℕ). named e ≢ y) (map named rest) (λ y later same.
      let (k, long) = named_at number (front ++ e ∷ []) rest more y later in
      let d : NamedAt number y = record { before = front; e = e; rest = rest; is = is; name = same } in
      omega (arith, (apart_places number number y d k).1, long, length-append front (e ∷ []))))
      (names_apart number (front ++ e ∷ []) rest more)

  -- a name of these objects is that of an entry of one of them
  name_of : (fs : List ObjectFixed) (x : ℕ × ℕ) → In x (all_named (objects_of J fs)) → (number : ℕ) × In number (numbers_of fs) × NamedAt number x
  name_of [] x h = absurd h
  name_of (f ∷ fs) x h = elim (in_either x (map named (J.objects f.plan.number)) (all_named (objects_of J fs)) h) [
    | inl here ↦ (f.plan.number, inl refl, (named_at f.plan.number [] (J.objects f.plan.number) refl x here).0)
    | inr later ↦ let (number, is, d) = name_of fs x later in (number, inr is, d)
  ]

  append_apart : (xs ys : List (ℕ × ℕ)) → AllPairs (λ (x y : ℕ × ℕ). x ≢ y) xs → AllPairs (λ (x y : ℕ × ℕ). x ≢ y) ys → ((x y : ℕ × ℕ) → In x xs → In y ys → x ≢ y) → AllPairs (λ (x y : ℕ × ℕ). x ≢ y) (xs ++ ys)
  append_apart [] ys one two other = two
  append_apart (x ∷ xs) ys one two other =
      AllPairs-cons (λ (a b : ℕ × ℕ). a ≢ b) x (xs ++ ys)
      (in_all (λ (y : ℕ × ℕ). x ≢ y) (xs ++ ys) (λ y is. elim (in_either y xs ys is) [ inl before ↦ pairs_first (λ (a b : ℕ × ℕ). a ≢ b) x xs one y before | inr behind ↦ other x y (inl refl) behind ]))
      (append_apart xs ys (pairs_tail (λ (a b : ℕ × ℕ). a ≢ b) x xs one) two (λ a b is also. other a b (inr is) also))

  all_names_apart : (fs : List ObjectFixed) → HaveOwnNumbers fs → AllPairs (λ (x y : ℕ × ℕ). x ≢ y) (all_named (objects_of J fs))
  all_names_apart [] owns = λ i j d less within. absurd (omega arith)
  all_names_apart (f ∷ fs) owns =
      append_apart (map named (J.objects f.plan.number)) (all_named (objects_of J fs)) (names_apart f.plan.number [] (J.objects f.plan.number) refl)
      (all_names_apart fs (pairs_tail (λ (m : ℕ) (k : ℕ). m ≢ k) f.plan.number (numbers_of fs) owns))
      (λ x y here later same.
      let (m, is, k) = name_of fs y later in
      let (d, long) = named_at f.plan.number [] (J.objects f.plan.number) refl y (subst (λ (z : ℕ × ℕ). In z (map named (J.objects f.plan.number))) same here) in
      pairs_first (λ (a : ℕ) (b : ℕ). a ≢ b) f.plan.number (numbers_of fs) owns m is (sym (apart_places f.plan.number m y d k).0))

  -- ---- the whole

  object_ruled : (f : ObjectFixed) → fixed_at n.objects f.plan.number ≡ Some f → (o : ObjectJournal) → o ≡ numbered f.plan.number (J.objects f.plan.number) → IsRuledObject (cells_in n) (shards_left n J) f o.entries
  object_ruled f found o is =
      subst (λ (x : ObjectJournal). IsRuledObject (cells_in n) (shards_left n J) f x.entries) (sym is)
      (record { within = c.legal.objects f.plan.number f found; ruled = λ before rest e parts. is_ruled f found before rest e parts })

  objects_ruled : AreRuled (cells_in n) (shards_left n J) (objects_of J n.objects)
  objects_ruled = record {
    each = λ i f o at stands.
        let (g, there, made) = mapped_at (λ (x : ObjectFixed). numbered x.plan.number (J.objects x.plan.number)) n.objects i o stands in
        let one : g ≡ f = same_Some g f (sym there ∙ at) in
        object_ruled f (found_by_number n.objects own i f at) o (sym made ∙ ap (λ (x : ObjectFixed). numbered x.plan.number (J.objects x.plan.number)) one);
    once = all_names_apart n.objects own;
  }

  pub left_legal : AreLegalBeside n J
  left_legal = record { shards = shards_legal; objects = objects_ruled }

  has_cells : HasCells (cells_in n) (journals_left n J)
  has_cells = record {
    shards = length-map (shards_left n J) (λ (journal : List Entry). map spelled journal) ∙ length-map-range_with_len J.shards 0 (length n.plans);
    objects = numbers_left n.objects;
  }
    where
      numbers_left : (fs : List ObjectFixed) → map (λ (o : ObjectJournal). o.number) (objects_of J fs) ≡ numbers_of fs
      numbers_left [] = refl
      numbers_left (f ∷ fs) = ap (λ (l : List ℕ). f.plan.number ∷ l) (numbers_left fs)

  pub left_replayed : AreReplayedLegal n J
  left_replayed =
      let all : AreReplayed (cells_in n) (journals_left n J) (Replayed.Legal (entries_in (journals_left n J))) = legal has_cells refl shards_legal objects_ruled in
      record { journals = all; spelled = λ bytes spells. judged spells all }
