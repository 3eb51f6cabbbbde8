-- What is found, from what was read of two frames.
use Rattle.std.proofs.Common.{◌≡◌, ◌≢◌, ℕ, ◌<◌, Bool, true, false, List, [], ◌∷◌, length, map, Some, None, refl, sym, ap, subst, ◌∙◌, arith}
use Rattle.std.specs.Prelude.{Option, slice_get, slice_index_or, bit_and}
use Rattle.std.specs.declared.sync.Arc.{Arc}
use Rattle.std.proofs.lemmas.Option.{none-some, same_Some}
use Rattle.keyed_seal.specs.Keys.{key_of}
use Rattle.object_core.specs.Operation.{right_of}
use Rattle.prin_term.specs.declared.term.Entry.{Entry}
use Rattle.prin_term.specs.View.{Grant, grant}
use Rattle.stmt_codec.specs.declared.cert.Cert.{Cert}
use Rattle.stmt_codec.specs.Certificates.{Certificate, certificate}
use Rattle.taos_calculus.specs.Question.{claim_of}
use Rattle.prin_term.specs.declared.term.Anchor.{Anchor}
use Rattle.taos_calculus.specs.Rules.{Claim, Judgement, Line, Proves}
use Rattle.byte_fields.specs.declared.fault.FormatFault.{FormatFault as WireFault}
use Rattle.byte_fields.specs.declared.fault.FormatFault.TheVariants as wire
use Rattle.taos_wire.specs.declared.reply.Reply as code
use Rattle.taos_wire.specs.declared.reply.Reply.TheVariants as replies
use Rattle.taos_wire.specs.Request.{Request, Spells, IsSealed}
use Rattle.taos_wire.specs.Reply as answers
use Rattle.taos_wire.specs.Reply.{SpellsReply, status_of}
use Rattle.taos_wire.specs.View.{cited, reply as reply_is}
use Rattle.object_core.specs.Objects.{ObjectPlan, object_of}
use Rattle.node_file.specs.Opening.{Opening}
use Rattle.node_commands.specs.declared.finding.CheckWord.TheVariants as word
use Rattle.node_commands.specs.declared.finding.Finding.TheVariants.{Refused}
use Rattle.node_commands.specs.Checking.{HasAsked, HasReplied, IsBelieved, IsGrant, Finds, no_request, no_request_seal, no_reply, no_echo, no_reply_seal, no_entry}
use Rattle.node_commands.proofs.Entries.{same_grant, place_within}

module _ (o : Opening) (request reply : Option (List ℕ)) where
  pub absent_request : request ≡ None → Finds o request reply (Refused word.Request)
  absent_request none = no_request (λ payload r there spelled. none-some payload (sym none ∙ there))

  pub unspelled_request : (payload : List ℕ) (f : WireFault) (offset : ℕ) → request ≡ Some payload → f ≡ wire.Malformed offset → ((r : Request) → Spells r payload → f ≡ wire.NoMemory) →
      Finds o request reply (Refused word.Request)
  unspelled_request payload f offset there is only = no_request (λ other r again spelled.
      let same : other ≡ payload = same_Some other payload (sym again ∙ there) in
      let bad : wire.Malformed offset ≡ wire.NoMemory = sym is ∙ only r (subst (Spells r) same spelled) in
      absurd cc)

  pub unsealed_request : (payload : List ℕ) (r : Request) (key : List ℕ) (right : Bool) → request ≡ Some payload → Spells r payload → Some key ≡ key_of o.channels r.channel → (IsSealed key payload → right ≡ true) → right ≡ false →
      Finds o request reply (Refused word.RequestSeal)
  unsealed_request payload r key right there spelled keyed sealed wrong =
      no_request_seal payload r key there spelled (sym keyed) (λ is. let bad : true ≡ false = sym (sealed is) ∙ wrong in absurd cc)

  pub absent_reply : (r : Request) (key : List ℕ) → HasAsked o request r key → reply ≡ None → Finds o request reply (Refused word.Reply)
  absent_reply r key asked none = no_reply r key asked (λ bytes channel seq a there spelled. none-some bytes (sym none ∙ there))

  pub unspelled_reply : (r : Request) (key bytes : List ℕ) (f : WireFault) (offset : ℕ) → HasAsked o request r key → reply ≡ Some bytes → f ≡ wire.Malformed offset →
      ((channel seq : ℕ) (a : answers.Reply) → SpellsReply channel seq a bytes → f ≡ wire.NoMemory) → Finds o request reply (Refused word.Reply)
  unspelled_reply r key bytes f offset asked there is only = no_reply r key asked (λ other channel seq a again spelled.
      let same : other ≡ bytes = same_Some other bytes (sym again ∙ there) in
      let bad : wire.Malformed offset ≡ wire.NoMemory = sym is ∙ only channel seq a (subst (SpellsReply channel seq a) same spelled) in
      absurd cc)

  pub unechoed : (r : Request) (key bytes : List ℕ) (channel seq : ℕ) (a : answers.Reply) (same : Bool) → HasAsked o request r key → reply ≡ Some bytes → SpellsReply channel seq a bytes →
      ((channel ≡ r.channel) × (seq ≡ r.seq) → same ≡ true) → same ≡ false → Finds o request reply (Refused word.Echo)
  unechoed r key bytes channel seq a same asked there spelled echoes other =
      no_echo r key bytes channel seq a (record { asked = asked; there = there; spelled = spelled }) (λ c s. let bad : true ≡ false = sym (echoes (c, s)) ∙ other in absurd cc)

  replied : (r : Request) (key bytes : List ℕ) (channel seq : ℕ) (a : answers.Reply) → HasAsked o request r key → reply ≡ Some bytes → SpellsReply channel seq a bytes →
      (channel ≡ r.channel) × (seq ≡ r.seq) → HasReplied o request reply r key bytes r.channel r.seq a
  replied r key bytes channel seq a asked there spelled same =
      record { asked = asked; there = there; spelled = subst (λ (n : ℕ). SpellsReply r.channel n a bytes) same.1 (subst (λ (c : ℕ). SpellsReply c seq a bytes) same.0 spelled) }

  pub unsealed_reply : (r : Request) (key bytes : List ℕ) (channel seq : ℕ) (a : answers.Reply) (right : Bool) → HasAsked o request r key → reply ≡ Some bytes → SpellsReply channel seq a bytes →
      (channel ≡ r.channel) × (seq ≡ r.seq) → (IsSealed key bytes → right ≡ true) → right ≡ false → Finds o request reply (Refused word.ReplySeal)
  unsealed_reply r key bytes channel seq a right asked there spelled same sealed wrong =
      no_reply_seal r key bytes a (replied r key bytes channel seq a asked there spelled same) (λ is. let bad : true ≡ false = sym (sealed is) ∙ wrong in absurd cc)

  pub is_believed : (r : Request) (key bytes : List ℕ) (channel seq : ℕ) (a : answers.Reply) → HasAsked o request r key → reply ≡ Some bytes → SpellsReply channel seq a bytes →
      (channel ≡ r.channel) × (seq ≡ r.seq) → IsSealed key bytes → IsBelieved o request reply r key a
  is_believed r key bytes channel seq a asked there spelled same sealed =
      record { bytes = bytes; replied = replied r key bytes channel seq a asked there spelled same; seal = sealed }

  -- ---- the entry, in the list that the program holds

  pub no_such_entry : (r : Request) (place : ℕ) (lines : List Line) (certs : List Certificate) (object : ObjectPlan) (list : List Entry) → IsGrant o request reply r place lines certs → object_of o.objects r.object ≡ Some object →
      object.list ≡ map grant list → (place < length list → ⊥) → Finds o request reply (Refused word.Entry)
  no_such_entry r place lines certs object list granted there is past =
      no_entry r place lines certs object (record { grant = granted; there = there })
      (λ g stands has. past (place_within list place g (subst (λ (l : List Grant). slice_get l place ≡ Some g) is stands)))

  pub no_right : (r : Request) (place : ℕ) (lines : List Line) (certs : List Certificate) (object : ObjectPlan) (list : List Entry) (e : Entry) → IsGrant o request reply r place lines certs → object_of o.objects r.object ≡ Some object →
      object.list ≡ map grant list → place < length list → e ≡ slice_index_or list place e → bit_and e.rights (right_of r.op) ≡ 0 → Finds o request reply (Refused word.Entry)
  no_right r place lines certs object list e granted there is within at none =
      no_entry r place lines certs object (record { grant = granted; there = there })
      (λ g stands has. has (ap (λ (h : Grant). bit_and h.rights (right_of r.op)) (sym (same_grant list place e g within at (subst (λ (l : List Grant). slice_get l place ≡ Some g) is stands))) ∙ none))

-- ---- what is no grant has another status

pub other_status : (a : code.Reply) → ((kept : Bool) (entry shard place : ℕ) (proof : _) (certs : _) (result : _) → a ≡ replies.Granted kept entry shard place proof certs result → ⊥) → status_of (reply_is a) ≢ 0
other_status (replies.Granted kept entry shard place proof certs result) none = absurd (none kept entry shard place proof certs result refl)
other_status (replies.Denied shard place l) none = λ e. omega (arith, e)
other_status (replies.Malformed offset) none = λ e. omega (arith, e)
other_status (replies.UnknownChannel number) none = λ e. omega (arith, e)
other_status replies.BadSeal none = λ e. omega (arith, e)
other_status (replies.Replayed last) none = λ e. omega (arith, e)
other_status (replies.CertRefused index code) none = λ e. omega (arith, e)
other_status (replies.ChannelFull held) none = λ e. omega (arith, e)
other_status (replies.RelayFailed index) none = λ e. omega (arith, e)
other_status (replies.UnknownObject number) none = λ e. omega (arith, e)
other_status (replies.JournalFull which number len) none = λ e. omega (arith, e)
other_status replies.NoMemory none = λ e. omega (arith, e)
other_status (replies.CommonsFull held shard) none = λ e. omega (arith, e)
other_status (replies.NotHeld digest) none = λ e. omega (arith, e)
other_status (replies.WithdrawnFull held shard) none = λ e. omega (arith, e)

-- ---- the claims of the certificates that the program shares

pub claims_are : {Z : Type 0} (certs : List (Arc Cert Z)) → map claim_of (map (cited {Z = Z}) certs) ≡ map (λ (c : Arc Cert Z). claim_of (certificate c.value.body)) certs
claims_are [] = refl
claims_are {Z} (c ∷ certs) = ap (λ (l : List Claim). claim_of (certificate c.value.body) ∷ l) (claims_are certs)

pub moved_proof : (anchors found : List Anchor) (claims others : List Claim) (lines : List Line) (fact : Judgement) → anchors ≡ found → claims ≡ others → Proves anchors claims lines fact → Proves found others lines fact
moved_proof anchors found claims others lines fact a c proves = subst (λ (l : List Claim). Proves found l lines fact) c (subst (λ (l : List Anchor). Proves l claims lines fact) a proves)
