-- A search with what it was asked.
use Rattle.std.specs.Prelude.{◌≡◌, ◌↔◌, ℕ, ◌<◌, ◌≤◌, Bool, true, false, List, [], Some, IsTrue}
use Rattle.std.specs.Prelude.{length, map, replicate, slice_get, All, Contains}
use Rattle.prin_term.specs.declared.term.Anchor.{Anchor}
use Rattle.prin_term.specs.Principal.{Principal}
use Rattle.prin_term.specs.View.{Grant}
use Rattle.stmt_codec.specs.Certificates.{Certificate}
use Rattle.taos_calculus.specs.declared.decide.TheConstants.{MAX_ANCHORS, MAX_CERTS}
use Rattle.taos_calculus.specs.declared.proof.TheConstants.{MAX_NODES}
use Rattle.taos_calculus.specs.Question.{Question, claim_of, picked}
use Rattle.taos_calculus.specs.Rules.{Claim}
use Rattle.taos_calculus.specs.Tables.{IsNodeTable, named, principals_of}
use Rattle.term_pool.specs.Claims.{CitedIn, claim_by}
use Rattle.term_pool.specs.declared.cited.Cited.{Cited}
use Rattle.goal_search.specs.declared.asked.Asked.{Asked}
use Rattle.goal_search.specs.Searching.{AreAnchored, core, IsReady, IsSettled}

-- what was asked
abbrev pub seen : Asked → Question
seen a = record {
  anchors = a.search.anchors.items;
  chosen = picked 0 (map (claim_by (named a.search.nodes.items)) a.held.items) a.marks.items;
  subject = named a.search.nodes.items a.subject;
  list = map (named a.search.nodes.items) a.list.items;
}

-- of the certificates that are held, those that are taken make the claims of their places, where p
-- gives the principal of each number
pub record MakeClaims (p : ℕ → Principal) (held : List Cited) (claims : List Claim)
    (taken : List Bool) : Type 0 where
  pub count : length held ≡ length claims
  pub claims_are : (i : ℕ) (c : Cited) → slice_get held i ≡ Some c → slice_get taken i ≡ Some true →
      slice_get claims i ≡ Some (claim_by p c)

-- the question is about these, whichever certificates are chosen
pub record IsAbout (a : Asked) (anchors : List Anchor) (certs : List Certificate)
    (subject : Principal) (list : List Grant) : Type 0 where
  pub anchors_are : a.search.anchors.items ≡ anchors
  pub claims_are : MakeClaims (named a.search.nodes.items) a.held.items (map claim_of certs)
      a.taken.items
  pub subject_is : named a.search.nodes.items a.subject ≡ subject
  pub list_are : map (named a.search.nodes.items) a.list.items ≡ map (λ (e : Grant). e.who) list

-- the certificate is one of those that are held, and is marked
abbrev pub IsMarked : List Cited → List Bool → Cited → Type 0
IsMarked held marks c = (i : ℕ) × (slice_get held i ≡ Some c) × (slice_get marks i ≡ Some true)

-- there are as many marks, and each that is marked here is marked there
abbrev pub AreAmong : List Bool → List Bool → Type 0
AreAmong marks others =
    (length marks ≡ length others) ×
    ((i : ℕ) → slice_get marks i ≡ Some true → slice_get others i ≡ Some true)

-- no place comes twice
abbrev pub AreOnce : List Cited → Type 0
AreOnce cited =
    (i j : ℕ) (c d : Cited) → slice_get cited i ≡ Some c → slice_get cited j ≡ Some d →
    c.place ≡ d.place → i ≡ j

-- the certificates are held, each with its place; those that are taken by the numbers of a table of
-- n nodes, and only these are marked
pub record IsHolding (n : ℕ) (held : List Cited) (taken marks : List Bool) : Type 0 where
  pub held_in : (i : ℕ) (c : Cited) → slice_get held i ≡ Some c → slice_get taken i ≡ Some true →
      CitedIn n c
  pub few : length held ≤ MAX_CERTS
  pub placed : (i : ℕ) (c : Cited) → slice_get held i ≡ Some c → c.place ≡ i
  pub count : length taken ≡ length held
  pub among : AreAmong marks taken

-- the question is taken in; no certificate is chosen and no row is begun yet
pub record IsGathered (a : Asked) : Type 0 where
  pub table : IsNodeTable a.search.nodes.items
  pub few_nodes : length a.search.nodes.items ≤ MAX_NODES
  pub few_anchors : length a.search.anchors.items ≤ MAX_ANCHORS
  pub few_links : length a.search.links.items ≤ MAX_ANCHORS
  pub anchored : AreAnchored a.search.nodes.items a.search.anchors.items a.search.links.items
  pub none_cited : a.search.cited.items ≡ []
  pub none_wanted : a.search.wanted.items ≡ []
  -- the pool has the principals of the table
  pub pooled : principals_of a.search.nodes.items ≡ a.pool.terms
  pub subject_in : a.subject < length a.search.nodes.items
  pub list_in : All (λ i. i < length a.search.nodes.items) a.list.items
  pub holding : IsHolding (length a.search.nodes.items) a.held.items a.taken.items a.marks.items
  pub none_marked : a.marks.items ≡ replicate (length a.held.items) false

-- the question is taken in, and its search keeps its order
pub record IsAsked (a : Asked) : Type 0 where
  pub ready : IsReady (core a.search)
  -- the pool has the principals of the table
  pub pooled : principals_of a.search.nodes.items ≡ a.pool.terms
  pub subject_in : a.subject < length a.search.nodes.items
  pub list_in : All (λ i. i < length a.search.nodes.items) a.list.items
  pub holding : IsHolding (length a.search.nodes.items) a.held.items a.taken.items a.marks.items
  -- the search has the certificates that are chosen, each once, in the order in which they came
  pub chosen : (c : Cited) → Contains a.search.cited.items c ↔ IsMarked a.held.items a.marks.items c
  pub once : AreOnce a.search.cited.items
  -- where nothing is said to be left, each wanted row is finished
  pub settled : IsTrue a.settled → IsSettled (core a.search)

-- the question, its table and its pool are the same
pub record AsksTheSame (old new : Asked) : Type 0 where
  pub seen_is : seen new ≡ seen old
  pub nodes_are : new.search.nodes.items ≡ old.search.nodes.items

-- the question is about the same, whichever certificates are chosen
pub record AsksAsBefore (old new : Asked) : Type 0 where
  pub nodes_are : new.search.nodes.items ≡ old.search.nodes.items
  pub anchors_are : new.search.anchors.items ≡ old.search.anchors.items
  pub held_are : new.held.items ≡ old.held.items
  pub taken_are : new.taken.items ≡ old.taken.items
  pub subject_is : new.subject ≡ old.subject
  pub list_are : new.list.items ≡ old.list.items
