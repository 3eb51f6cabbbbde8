-- What is found in a request and its reply, without a clock and without the node: the first thing
-- that is wrong with them, or that the reply's proof gives what it grants.
use Rattle.std.specs.Prelude.{◌≡◌, ◌≢◌, ◌<◌, ℕ, Bool, List, length, map, Option, Some, None, slice_get}
use Rattle.keyed_seal.specs.Keys.{key_of}
use Rattle.object_core.specs.Operation.{right_of}
use Rattle.prin_term.specs.Principal.{Principal}
use Rattle.prin_term.specs.View.{Grant}
use Rattle.stmt_codec.specs.Certificates.{Certificate}
use Rattle.taos_calculus.specs.Monitor.{HasRight}
use Rattle.taos_calculus.specs.Question.{claim_of}
use Rattle.taos_calculus.specs.Rules.{Line, Judgement, SpeaksFor, Proves}
use Rattle.taos_calculus.specs.Tables.{Parts, named}
use Rattle.taos_calculus.specs.declared.check.Conclusion.{Conclusion}
use Rattle.taos_wire.specs.Request.{Request, Spells, IsAsked, IsSealed, subject_of}
use Rattle.taos_wire.specs.Reply as answers
use Rattle.taos_wire.specs.Reply.{SpellsReply, status_of}
use Rattle.object_core.specs.Objects.{ObjectPlan, object_of}
use Rattle.node_file.specs.Opening.{Opening}
use Rattle.node_commands.specs.declared.checking.Stop.{Stop}
use Rattle.node_commands.specs.declared.checking.Stop.TheVariants.{Wrong, NoMemory}
use Rattle.node_commands.specs.declared.finding.CheckWord.{CheckWord}
use Rattle.node_commands.specs.declared.finding.CheckWord.TheVariants as word
use Rattle.node_commands.specs.declared.finding.Finding.{Finding}
use Rattle.node_commands.specs.declared.finding.Finding.TheVariants.{Granted, Refused}

-- the first frame is there and its payload is this request; like each record that follows, it has
-- what was right up to there
pub record HasAsked (o : Opening) (request : Option (List ℕ)) (r : Request)
    (key : List ℕ) : Type 0 where
  pub payload : List ℕ
  pub there : request ≡ Some payload
  pub asked : IsAsked o.channels payload r key

module _ (o : Opening) (request reply : Option (List ℕ)) where
  -- the second frame is there, and is a reply to this number of a channel
  pub record HasReplied (r : Request) (key bytes : List ℕ) (channel seq : ℕ)
      (a : answers.Reply) : Type 0 where
    pub asked : HasAsked o request r key
    pub there : reply ≡ Some bytes
    pub spelled : SpellsReply channel seq a bytes

  -- the reply is to that request's channel and number, under the channel's key
  pub record IsBelieved (r : Request) (key : List ℕ) (a : answers.Reply) : Type 0 where
    pub bytes : List ℕ
    pub replied : HasReplied r key bytes r.channel r.seq a
    pub seal : IsSealed key bytes

  -- the reply is a grant, by these lines and certificates
  pub record IsGrant (r : Request) (entry : ℕ) (lines : List Line)
      (certs : List Certificate) : Type 0 where
    pub key : List ℕ
    pub kept : Bool
    pub shard : ℕ
    pub place : ℕ
    -- the object's content, as the reply has it
    pub result : List ℕ
    pub believed : IsBelieved r key (answers.Granted kept entry shard place lines certs result)

  -- the reply is a grant, for an object that is there
  pub record IsForObject (r : Request) (entry : ℕ) (lines : List Line) (certs : List Certificate)
      (object : ObjectPlan) : Type 0 where
    pub grant : IsGrant r entry lines certs
    pub there : object_of o.objects r.object ≡ Some object

  -- the reply is a grant for an object, by an entry of its list that has the right
  pub record IsForEntry (r : Request) (entry : ℕ) (lines : List Line) (certs : List Certificate)
      (g : Grant) : Type 0 where
    pub object : ObjectPlan
    pub found : IsForObject r entry lines certs object
    pub listed : slice_get object.list entry ≡ Some g
    pub has_right : HasRight g (right_of r.op)

  -- the lines prove the fact by the file's anchors and the reply's certificates
  abbrev pub ProveByFile : List Line → List Certificate → Judgement → Type 0
  ProveByFile lines certs fact = Proves o.anchors (map claim_of certs) lines fact

  -- the reply is such a grant, whose lines prove that left speaks for right
  pub record IsProved (r : Request) (entry : ℕ) (lines : List Line) (certs : List Certificate)
      (g : Grant) (left right : Principal) : Type 0 where
    pub granted : IsForEntry r entry lines certs g
    pub proves : ProveByFile lines certs (SpeaksFor left right)

  -- What is found, one case for each finding: the first thing that is wrong; where nothing is, the
  -- proof proves that the request's subject speaks for the entry.
  pub data Finds : Finding → Type 0 where
    no_request : ((payload : List ℕ) (r : Request) → request ≡ Some payload → Spells r payload →
        ⊥) → Finds (Refused word.Request)
    no_channel : (payload : List ℕ) (r : Request) → request ≡ Some payload → Spells r payload →
        key_of o.channels r.channel ≡ None →
        Finds (Refused word.Channel)
    no_request_seal : (payload : List ℕ) (r : Request) (key : List ℕ) → request ≡ Some payload →
        Spells r payload → key_of o.channels r.channel ≡ Some key →
        (IsSealed key payload → ⊥) → Finds (Refused word.RequestSeal)
    no_reply : (r : Request) (key : List ℕ) → HasAsked o request r key →
        ((bytes : List ℕ) (channel seq : ℕ) (a : answers.Reply) → reply ≡ Some bytes →
        SpellsReply channel seq a bytes → ⊥) →
        Finds (Refused word.Reply)
    no_echo : (r : Request) (key bytes : List ℕ) (channel seq : ℕ) (a : answers.Reply) →
        HasReplied r key bytes channel seq a →
        (channel ≡ r.channel → seq ≡ r.seq → ⊥) → Finds (Refused word.Echo)
    no_reply_seal : (r : Request) (key bytes : List ℕ) (a : answers.Reply) →
        HasReplied r key bytes r.channel r.seq a →
        (IsSealed key bytes → ⊥) → Finds (Refused word.ReplySeal)
    no_grant : (r : Request) (key : List ℕ) (a : answers.Reply) → IsBelieved r key a →
        status_of a ≢ 0 → Finds (Refused word.Status)
    no_object : (r : Request) (entry : ℕ) (lines : List Line) (certs : List Certificate) →
        IsGrant r entry lines certs →
        object_of o.objects r.object ≡ None → Finds (Refused word.Object)
    no_entry : (r : Request) (entry : ℕ) (lines : List Line) (certs : List Certificate)
        (object : ObjectPlan) → IsForObject r entry lines certs object →
        ((g : Grant) → slice_get object.list entry ≡ Some g → HasRight g (right_of r.op) → ⊥) →
        Finds (Refused word.Entry)
    no_proof : (r : Request) (entry : ℕ) (lines : List Line) (certs : List Certificate)
        (g : Grant) → IsForEntry r entry lines certs g →
        ((left right : Principal) → ProveByFile lines certs (SpeaksFor left right) → ⊥) →
        Finds (Refused word.Proof)
    other_conclusion : (r : Request) (entry : ℕ) (lines : List Line) (certs : List Certificate)
        (g : Grant) (left right : Principal) →
        IsProved r entry lines certs g left right → (left ≡ subject_of r → right ≡ g.who → ⊥) →
        Finds (Refused word.Conclusion)
    grants : (r : Request) (entry : ℕ) (lines : List Line) (certs : List Certificate) (g : Grant) →
        IsProved r entry lines certs g (subject_of r) g.who →
        Finds (Granted entry (length lines) (length certs))

-- why no more is looked at: the first thing that is wrong, or out of memory
abbrev pub Stops : Opening → Option (List ℕ) → Option (List ℕ) → Stop → Type 0
Stops o request reply (Wrong w) = Finds o request reply (Refused w)
Stops o request reply NoMemory = Unit {0}

-- ---- a grant, whatever its frames are

-- a grant of this request by the place is one by this entry
abbrev pub IsEntryAt : Opening → Request → (place : ℕ) → Grant → Type 0
IsEntryAt o r place g =
    (request reply : Option (List ℕ)) (lines : List Line) (certs : List Certificate) →
    IsGrant o request reply r place lines certs → IsForEntry o request reply r place lines certs g

-- a grant of this request by the place is refused by this word
abbrev pub RefusesAt : Opening → Request → (place : ℕ) → CheckWord → Type 0
RefusesAt o r place w =
    (request reply : Option (List ℕ)) (lines : List Line) (certs : List Certificate) →
    IsGrant o request reply r place lines certs → Finds o request reply (Refused w)

-- this is found in a grant of the subject's by this entry
abbrev pub FindsOfGrant : Opening → Principal → (place : ℕ) → List Line → List Certificate → Grant →
    Finding → Type 0
FindsOfGrant o subject place lines certs g found =
    (request reply : Option (List ℕ)) (r : Request) → subject ≡ subject_of r →
    IsForEntry o request reply r place lines certs g → Finds o request reply found

-- ---- what a proof concludes

-- the conclusion is that the one speaks for the other
abbrev pub Concludes : Parts → Conclusion → (left right : Principal) → Type 0
Concludes parts c left right =
    (named parts.nodes c.left ≡ left) × (named parts.nodes c.right ≡ right)

-- where the conclusion is of numbers that are there, and is that, this holds
abbrev pub OnConclusion : Parts → Conclusion → (left right : Principal) → Type 0 → Type 0
OnConclusion parts c left right Holds =
    c.left < length parts.nodes → c.right < length parts.nodes →
    named parts.nodes c.left ≡ left → named parts.nodes c.right ≡ right → Holds
