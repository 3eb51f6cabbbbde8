-- Two frames show one finding: what is wrong first excludes all that would be looked at behind it.
use Rattle.std.proofs.Common.{◌≡◌, ℕ, zero, suc, ◌<◌, ◌≤◌, List, [], length, Some, refl, sym, ap, subst, ◌∙◌, arith, inl, inr}
use Rattle.std.specs.Prelude.{Option, slice_get}
use Rattle.std.proofs.lemmas.Option.{none-some, same_Some}
use Rattle.std.proofs.lemmas.Bool.{cases_eq, cases_order}
use Rattle.keyed_seal.specs.Keys.{key_of}
use Rattle.object_core.specs.Operation.{right_of}
use Rattle.prin_term.specs.Principal.{Principal}
use Rattle.prin_term.specs.View.{Grant}
use Rattle.stmt_codec.specs.Certificates.{Certificate}
use Rattle.taos_calculus.specs.Monitor.{HasRight}
use Rattle.taos_calculus.specs.Rules.{Line, SpeaksFor, Says, Judgement, last_fact}
use Rattle.taos_wire.specs.Request.{Request, Spells, IsSealed, subject_of}
use Rattle.taos_wire.specs.Reply as answers
use Rattle.taos_wire.specs.Reply.{SpellsReply, status_of}
use Rattle.taos_wire.proofs.RequestLaws as requests
use Rattle.taos_wire.proofs.ReplyLaws as replies
use Rattle.object_core.specs.Objects.{ObjectPlan, object_of}
use Rattle.node_file.specs.Opening.{Opening}
use Rattle.node_commands.specs.declared.finding.CheckWord.{CheckWord}
use Rattle.node_commands.specs.declared.finding.CheckWord.TheVariants as word
use Rattle.node_commands.specs.declared.finding.Finding.{Finding}
use Rattle.node_commands.specs.declared.finding.Finding.TheVariants.{Granted, Refused}
use Rattle.node_commands.specs.Checking.{HasAsked, HasReplied, IsBelieved, IsGrant, IsForObject, IsForEntry, IsProved, ProveByFile, Finds, no_request, no_channel, no_request_seal, no_reply, no_echo, no_reply_seal, no_grant, no_object, no_entry, no_proof, other_conclusion, grants}

-- the place of a word in their order; behind them a grant
abbrev rank_of : CheckWord → ℕ
rank_of word.Request = 0
rank_of word.Channel = 1
rank_of word.RequestSeal = 2
rank_of word.Reply = 3
rank_of word.Echo = 4
rank_of word.ReplySeal = 5
rank_of word.Status = 6
rank_of word.Object = 7
rank_of word.Entry = 8
rank_of word.Proof = 9
rank_of word.Conclusion = 10

abbrev place_of : Finding → ℕ
place_of (Refused w) = rank_of w
place_of (Granted entry lines certs) = 11

abbrev word_at : ℕ → CheckWord
word_at zero = word.Request
word_at (suc zero) = word.Channel
word_at (suc (suc zero)) = word.RequestSeal
word_at (suc (suc (suc zero))) = word.Reply
word_at (suc (suc (suc (suc zero)))) = word.Echo
word_at (suc (suc (suc (suc (suc zero))))) = word.ReplySeal
word_at (suc (suc (suc (suc (suc (suc zero)))))) = word.Status
word_at (suc (suc (suc (suc (suc (suc (suc zero))))))) = word.Object
word_at (suc (suc (suc (suc (suc (suc (suc (suc zero)))))))) = word.Entry
word_at (suc (suc (suc (suc (suc (suc (suc (suc (suc zero))))))))) = word.Proof
word_at _ = word.Conclusion

named_at : (w : CheckWord) → word_at (rank_of w) ≡ w
named_at word.Request = refl
named_at word.Channel = refl
named_at word.RequestSeal = refl
named_at word.Reply = refl
named_at word.Echo = refl
named_at word.ReplySeal = refl
named_at word.Status = refl
named_at word.Object = refl
named_at word.Entry = refl
named_at word.Proof = refl
named_at word.Conclusion = refl

ranks : (w : CheckWord) → rank_of w < 11
ranks word.Request = omega arith
ranks word.Channel = omega arith
ranks word.RequestSeal = omega arith
ranks word.Reply = omega arith
ranks word.Echo = omega arith
ranks word.ReplySeal = omega arith
ranks word.Status = omega arith
ranks word.Object = omega arith
ranks word.Entry = omega arith
ranks word.Proof = omega arith
ranks word.Conclusion = omega arith

-- ---- what a reply says, as functions of it

abbrev entry_in : answers.Reply → ℕ
entry_in (answers.Granted kept entry shard place lines certs result) = entry
entry_in _ = 0

abbrev lines_in : answers.Reply → List Line
lines_in (answers.Granted kept entry shard place lines certs result) = lines
lines_in _ = []

abbrev certs_in : answers.Reply → List Certificate
certs_in (answers.Granted kept entry shard place lines certs result) = certs
certs_in _ = []

abbrev left_in : Judgement → Principal
left_in (SpeaksFor left right) = left
left_in (Says who left right) = left

abbrev right_in : Judgement → Principal
right_in (SpeaksFor left right) = right
right_in (Says who left right) = right

one_value : {A : Type 0} (found : Option A) (x y : A) → found ≡ Some x → found ≡ Some y → x ≡ y
one_value found x y is_x is_y = same_Some x y (sym is_x ∙ is_y)

module _ (o : Opening) (request reply : Option (List ℕ)) where
  spelled_once : (p q : List ℕ) (r s : Request) → request ≡ Some p → request ≡ Some q → Spells r p → Spells s q → r ≡ s
  spelled_once p q r s there again is_r is_s = requests.spelled_once r s p is_r (subst (Spells s) (sym (one_value request p q there again)) is_s)

  asked_once : (r s : Request) (k l : List ℕ) → HasAsked o request r k → HasAsked o request s l → (r ≡ s) × (k ≡ l)
  asked_once r s k l a b =
      let same : r ≡ s = spelled_once a.payload b.payload r s a.there b.there a.asked.spelled b.asked.spelled in
      (same, one_value (key_of o.channels r.channel) k l a.asked.keyed (subst (λ (t : Request). key_of o.channels t.channel ≡ Some l) (sym same) b.asked.keyed))

  pub record SameReply (r s : Request) (k l bytes others : List ℕ) (c d n m : ℕ) (a b : answers.Reply) : Type 0 where
    pub request_is : r ≡ s
    pub key_is : k ≡ l
    pub bytes_are : bytes ≡ others
    pub channel_is : c ≡ d
    pub seq_is : n ≡ m
    pub reply_is : a ≡ b

  replied_once : (r s : Request) (k l bytes others : List ℕ) (c d n m : ℕ) (a b : answers.Reply) → HasReplied o request reply r k bytes c n a → HasReplied o request reply s l others d m b → SameReply r s k l bytes others c d n m a b
  replied_once r s k l bytes others c d n m a b x y =
      let asked = asked_once r s k l x.asked y.asked in
      let one : bytes ≡ others = one_value reply bytes others x.there y.there in
      let spelled = replies.spelled_once c d n m a b bytes x.spelled (subst (SpellsReply d m b) (sym one) y.spelled) in
      record { request_is = asked.0; key_is = asked.1; bytes_are = one; channel_is = spelled.0; seq_is = spelled.1; reply_is = spelled.2 }

  believed_once : (r s : Request) (k l : List ℕ) (a b : answers.Reply) → IsBelieved o request reply r k a → IsBelieved o request reply s l b → (r ≡ s) × (k ≡ l) × (a ≡ b)
  believed_once r s k l a b x y =
      let same = replied_once r s k l x.bytes y.bytes r.channel s.channel r.seq s.seq a b x.replied y.replied in
      (same.request_is, same.key_is, same.reply_is)

  pub record SameGrant (r s : Request) (e f : ℕ) (lines others : List Line) (certs more : List Certificate) : Type 0 where
    pub request_is : r ≡ s
    pub entry_is : e ≡ f
    pub lines_are : lines ≡ others
    pub certs_are : certs ≡ more

  granted_once : (r s : Request) (e f : ℕ) (lines others : List Line) (certs more : List Certificate) → IsGrant o request reply r e lines certs → IsGrant o request reply s f others more → SameGrant r s e f lines others certs more
  granted_once r s e f lines others certs more x y =
      let a = answers.Granted x.kept e x.shard x.place lines certs x.result in
      let b = answers.Granted y.kept f y.shard y.place others more y.result in
      let same = believed_once r s x.key y.key a b x.believed y.believed in
      record { request_is = same.0; entry_is = ap entry_in same.2; lines_are = ap lines_in same.2; certs_are = ap certs_in same.2 }

  found_once : (r s : Request) (e f : ℕ) (lines others : List Line) (certs more : List Certificate) (object other : ObjectPlan) → IsForObject o request reply r e lines certs object → IsForObject o request reply s f others more other → object ≡ other
  found_once r s e f lines others certs more object other x y =
      let same = granted_once r s e f lines others certs more x.grant y.grant in
      one_value (object_of o.objects r.object) object other x.there (subst (λ (t : Request). object_of o.objects t.object ≡ Some other) (sym same.request_is) y.there)

  listed_once : (r s : Request) (e f : ℕ) (lines others : List Line) (certs more : List Certificate) (g h : Grant) → IsForEntry o request reply r e lines certs g → IsForEntry o request reply s f others more h → g ≡ h
  listed_once r s e f lines others certs more g h x y =
      let object : x.object ≡ y.object = found_once r s e f lines others certs more x.object y.object x.found y.found in
      let same = granted_once r s e f lines others certs more x.found.grant y.found.grant in
      one_value (slice_get x.object.list e) g h x.listed
      (subst (λ (n : ℕ). slice_get x.object.list n ≡ Some h) (sym same.entry_is) (subst (λ (p : ObjectPlan). slice_get p.list f ≡ Some h) (sym object) y.listed))

  proved_once : (r s : Request) (e f : ℕ) (lines others : List Line) (certs more : List Certificate) (g h : Grant) (a b c d : Principal)
      → IsProved o request reply r e lines certs g a b → IsProved o request reply s f others more h c d → (a ≡ c) × (b ≡ d)
  proved_once r s e f lines others certs more g h a b c d x y =
      let same = granted_once r s e f lines others certs more x.granted.found.grant y.granted.found.grant in
      let fact : SpeaksFor a b ≡ SpeaksFor c d = one_value (last_fact lines) (SpeaksFor a b) (SpeaksFor c d) x.proves.last (subst (λ (l : List Line). last_fact l ≡ Some (SpeaksFor c d)) (sym same.lines_are) y.proves.last) in
      (ap left_in fact, ap right_in fact)

  -- the words up to the one of the rank do not hold
  abbrev Passes : ℕ → Type 0
  Passes zero = (payload : List ℕ) × (r : Request) × (request ≡ Some payload) × Spells r payload
  Passes (suc zero) = (payload : List ℕ) × (r : Request) × (key : List ℕ) × (request ≡ Some payload) × Spells r payload × (key_of o.channels r.channel ≡ Some key)
  Passes (suc (suc zero)) = (r : Request) × (key : List ℕ) × HasAsked o request r key
  Passes (suc (suc (suc zero))) = (r : Request) × (key : List ℕ) × (bytes : List ℕ) × (channel : ℕ) × (seq : ℕ) × (a : answers.Reply) × HasReplied o request reply r key bytes channel seq a
  Passes (suc (suc (suc (suc zero)))) = (r : Request) × (key : List ℕ) × (bytes : List ℕ) × (a : answers.Reply) × HasReplied o request reply r key bytes r.channel r.seq a
  Passes (suc (suc (suc (suc (suc zero))))) = (r : Request) × (key : List ℕ) × (a : answers.Reply) × IsBelieved o request reply r key a
  Passes (suc (suc (suc (suc (suc (suc zero)))))) = (r : Request) × (e : ℕ) × (lines : List Line) × (certs : List Certificate) × IsGrant o request reply r e lines certs
  Passes (suc (suc (suc (suc (suc (suc (suc zero))))))) = (r : Request) × (e : ℕ) × (lines : List Line) × (certs : List Certificate) × (object : ObjectPlan) × IsForObject o request reply r e lines certs object
  Passes (suc (suc (suc (suc (suc (suc (suc (suc zero)))))))) = (r : Request) × (e : ℕ) × (lines : List Line) × (certs : List Certificate) × (g : Grant) × IsForEntry o request reply r e lines certs g
  Passes (suc (suc (suc (suc (suc (suc (suc (suc (suc zero))))))))) =
      (r : Request) × (e : ℕ) × (lines : List Line) × (certs : List Certificate) × (g : Grant) × (left : Principal) × (right : Principal) × IsProved o request reply r e lines certs g left right
  Passes _ = (r : Request) × (e : ℕ) × (lines : List Line) × (certs : List Certificate) × (g : Grant) × IsProved o request reply r e lines certs g (subject_of r) g.who

  down : (k : ℕ) → Passes (suc k) → Passes k
  down zero p = (p.0, p.1, p.3, p.4)
  down (suc zero) p = (p.2.payload, p.0, p.1, p.2.there, p.2.asked.spelled, p.2.asked.keyed)
  down (suc (suc zero)) p = (p.0, p.1, p.6.asked)
  down (suc (suc (suc zero))) p = (p.0, p.1, p.2, p.0.channel, p.0.seq, p.3, p.4)
  down (suc (suc (suc (suc zero)))) p = (p.0, p.1, p.3.bytes, p.2, p.3.replied)
  down (suc (suc (suc (suc (suc zero))))) p =
      (p.0, p.4.key, answers.Granted p.4.kept p.1 p.4.shard p.4.place p.2 p.3 p.4.result, p.4.believed)
  down (suc (suc (suc (suc (suc (suc zero)))))) p = (p.0, p.1, p.2, p.3, p.5.grant)
  down (suc (suc (suc (suc (suc (suc (suc zero))))))) p = (p.0, p.1, p.2, p.3, p.5.object, p.5.found)
  down (suc (suc (suc (suc (suc (suc (suc (suc zero)))))))) p = (p.0, p.1, p.2, p.3, p.4, p.7.granted)
  down (suc (suc (suc (suc (suc (suc (suc (suc (suc zero))))))))) p = (p.0, p.1, p.2, p.3, p.4, subject_of p.0, p.4.who, p.5)
  down (suc (suc (suc (suc (suc (suc (suc (suc (suc (suc k)))))))))) p = p

  down_to : (n k : ℕ) → k ≤ n → Passes n → Passes k
  down_to zero k within p = let same : zero ≡ k = omega (arith, within) in subst Passes same p
  down_to (suc n) k within p = elim (cases_eq k (suc n)) [
    | inl same ↦ subst Passes (sym same) p
    | inr other ↦ down_to n k (omega (arith, within, other)) (down n p)
  ]

  -- the words before the finding do not hold
  pub passed : (f : Finding) → Finds o request reply f → (k : ℕ) → k < place_of f → Passes k
  passed (Refused word.Request) (no_request none) k before = absurd (omega (arith, before))
  passed (Refused word.Channel) (no_channel payload r there spelled none) k before = down_to 0 k (omega (arith, before)) (payload, r, there, spelled)
  passed (Refused word.RequestSeal) (no_request_seal payload r key there spelled keyed unsealed) k before = down_to 1 k (omega (arith, before)) (payload, r, key, there, spelled, keyed)
  passed (Refused word.Reply) (no_reply r key asked none) k before = down_to 2 k (omega (arith, before)) (r, key, asked)
  passed (Refused word.Echo) (no_echo r key bytes channel seq a replied other) k before = down_to 3 k (omega (arith, before)) (r, key, bytes, channel, seq, a, replied)
  passed (Refused word.ReplySeal) (no_reply_seal r key bytes a replied unsealed) k before = down_to 4 k (omega (arith, before)) (r, key, bytes, a, replied)
  passed (Refused word.Status) (no_grant r key a believed other) k before = down_to 5 k (omega (arith, before)) (r, key, a, believed)
  passed (Refused word.Object) (no_object r e lines certs grant none) k before = down_to 6 k (omega (arith, before)) (r, e, lines, certs, grant)
  passed (Refused word.Entry) (no_entry r e lines certs object found none) k before = down_to 7 k (omega (arith, before)) (r, e, lines, certs, object, found)
  passed (Refused word.Proof) (no_proof r e lines certs g granted none) k before = down_to 8 k (omega (arith, before)) (r, e, lines, certs, g, granted)
  passed (Refused word.Conclusion) (other_conclusion r e lines certs g left right proved other) k before = down_to 9 k (omega (arith, before)) (r, e, lines, certs, g, left, right, proved)
  passed (Granted _ _ _) (grants r e lines certs g proved) k before = down_to 10 k (omega (arith, before)) (r, e, lines, certs, g, proved)

  -- and the word that is found holds
  pub stopped : (w : CheckWord) → Finds o request reply (Refused w) → Passes (rank_of w) → ⊥
  stopped word.Request (no_request none) p = none p.0 p.1 p.2 p.3
  stopped word.Channel (no_channel payload r there spelled none) p =
      none-some p.2 (sym none ∙ ap (λ (t : Request). key_of o.channels t.channel) (spelled_once payload p.0 r p.1 there p.3 spelled p.4) ∙ p.5)
  stopped word.RequestSeal (no_request_seal payload r key there spelled keyed unsealed) p =
      let h = p.2 in
      let one : payload ≡ h.payload = one_value request payload h.payload there h.there in
      let same : r ≡ p.0 = spelled_once payload h.payload r p.0 there h.there spelled h.asked.spelled in
      let keys : key ≡ p.1 = one_value (key_of o.channels r.channel) key p.1 keyed (subst (λ (t : Request). key_of o.channels t.channel ≡ Some p.1) (sym same) h.asked.keyed) in
      unsealed (subst (λ (k : List ℕ). IsSealed k payload) (sym keys) (subst (IsSealed p.1) (sym one) h.asked.seal))
  stopped word.Reply (no_reply r key asked none) p = none p.2 p.3 p.4 p.5 p.6.there p.6.spelled
  stopped word.Echo (no_echo r key bytes channel seq a replied other) p =
      let same = replied_once r p.0 key p.1 bytes p.2 channel p.0.channel seq p.0.seq a p.3 replied p.4 in
      other (same.channel_is ∙ ap (λ (t : Request). t.channel) (sym same.request_is)) (same.seq_is ∙ ap (λ (t : Request). t.seq) (sym same.request_is))
  stopped word.ReplySeal (no_reply_seal r key bytes a replied unsealed) p =
      let h = p.3 in
      let same = replied_once r p.0 key p.1 bytes h.bytes r.channel p.0.channel r.seq p.0.seq a p.2 replied h.replied in
      unsealed (subst (λ (k : List ℕ). IsSealed k bytes) (sym same.key_is) (subst (IsSealed p.1) (sym same.bytes_are) h.seal))
  stopped word.Status (no_grant r key a believed other) p =
      let h = p.4 in
      let b = answers.Granted h.kept p.1 h.shard h.place p.2 p.3 h.result in
      other (ap status_of (believed_once r p.0 key h.key a b believed h.believed).2)
  stopped word.Object (no_object r e lines certs grant none) p =
      let same = granted_once r p.0 e p.1 lines p.2 certs p.3 grant p.5.grant in
      none-some p.4 (sym none ∙ ap (λ (t : Request). object_of o.objects t.object) same.request_is ∙ p.5.there)
  stopped word.Entry (no_entry r e lines certs object found none) p =
      let h = p.5 in
      let same = granted_once r p.0 e p.1 lines p.2 certs p.3 found.grant h.found.grant in
      let one : object ≡ h.object = found_once r p.0 e p.1 lines p.2 certs p.3 object h.object found h.found in
      none p.4 (subst (λ (n : ℕ). slice_get object.list n ≡ Some p.4) (sym same.entry_is) (subst (λ (q : ObjectPlan). slice_get q.list p.1 ≡ Some p.4) (sym one) h.listed))
      (subst (λ (t : Request). HasRight p.4 (right_of t.op)) (sym same.request_is) h.has_right)
  stopped word.Proof (no_proof r e lines certs g granted none) p =
      let h = p.7 in
      let same = granted_once r p.0 e p.1 lines p.2 certs p.3 granted.found.grant h.granted.found.grant in
      none p.5 p.6 (subst (λ (l : List Line). ProveByFile o request reply l certs (SpeaksFor p.5 p.6)) (sym same.lines_are) (subst (λ (cs : List Certificate). ProveByFile o request reply p.2 cs (SpeaksFor p.5 p.6)) (sym same.certs_are) h.proves))
  stopped word.Conclusion (other_conclusion r e lines certs g left right proved other) p =
      let h = p.5 in
      let same = granted_once r p.0 e p.1 lines p.2 certs p.3 proved.granted.found.grant h.granted.found.grant in
      let sides = proved_once r p.0 e p.1 lines p.2 certs p.3 g p.4 left right (subject_of p.0) p.4.who proved h in
      let one : g ≡ p.4 = listed_once r p.0 e p.1 lines p.2 certs p.3 g p.4 proved.granted h.granted in
      other (sides.0 ∙ ap subject_of (sym same.request_is)) (sides.1 ∙ ap (λ (x : Grant). x.who) (sym one))

  one_grant : (e l c f m d : ℕ) → Finds o request reply (Granted e l c) → Finds o request reply (Granted f m d) → Granted e l c ≡ Granted f m d
  one_grant _ _ _ _ _ _ (grants r e lines certs g proved) (grants s f others more h again) =
      let same = granted_once r s e f lines others certs more proved.granted.found.grant again.granted.found.grant in
      ap (λ (n : ℕ). Granted n (length lines) (length certs)) same.entry_is
      ∙ ap (λ (l : List Line). Granted f (length l) (length certs)) same.lines_are
      ∙ ap (λ (cs : List Certificate). Granted f (length others) (length cs)) same.certs_are

  ordered : (a b : Finding) → Finds o request reply a → Finds o request reply b → place_of a < place_of b → ⊥
  ordered (Refused w) b is_a is_b before = stopped w is_a (passed b is_b (rank_of w) before)
  ordered (Granted e l c) (Granted f m d) is_a is_b before = omega (arith, before)
  ordered (Granted e l c) (Refused w) is_a is_b before = omega (arith, before, ranks w)

  at_one_place : (a b : Finding) → Finds o request reply a → Finds o request reply b → place_of a ≡ place_of b → a ≡ b
  at_one_place (Refused v) (Refused w) is_a is_b same = ap (λ (u : CheckWord). Refused u) (sym (named_at v) ∙ ap word_at same ∙ named_at w)
  at_one_place (Granted e l c) (Granted f m d) is_a is_b same = one_grant e l c f m d is_a is_b
  at_one_place (Granted e l c) (Refused w) is_a is_b same = absurd (omega (arith, same, ranks w))
  at_one_place (Refused w) (Granted e l c) is_a is_b same = absurd (omega (arith, same, ranks w))

  pub one_finding : (a b : Finding) → Finds o request reply a → Finds o request reply b → a ≡ b
  one_finding a b is_a is_b = elim (cases_order (place_of a) (place_of b)) [
    | inl same ↦ at_one_place a b is_a is_b same
    | inr (inl before) ↦ absurd (ordered a b is_a is_b before)
    | inr (inr behind) ↦ absurd (ordered b a is_b is_a behind)
  ]
