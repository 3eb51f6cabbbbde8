-- Two turns of one payload where nobody else steps a cell, by the same answers of the fetch and of the link, leave the same.
use Rattle.std.proofs.Common.{◌≡◌, ◌≢◌, ℕ, ◌+◌, Bool, true, false, List, [], ◌∷◌, ◌++◌, length, refl, sym, ap, ap₂, subst, ◌∙◌, append-nil, append_assoc, arith}
use Rattle.std.specs.Prelude.{is_some}
use Rattle.std.proofs.lemmas.Option.{none-some, same_Some}
use Rattle.keyed_seal.specs.Keys.{key_of}
use Rattle.taos_wire.specs.Request.{Request, IsAsked, IsSealed}
use Rattle.taos_wire.specs.Reply as replies
use Rattle.taos_wire.specs.Reply.{Sent, sealed}
use Rattle.taos_wire.proofs.RequestLaws.{spelled_once}
use Rattle.cred_pull.specs.Fetching as fetching
use Rattle.cred_pull.specs.Fetching.{Texts, Pull, Gave}
use Rattle.cred_pull.specs.Pulling.{within}
use Rattle.cred_pull.specs.Pulled.{ArePulled, IsFailedAt}
use Rattle.cred_pull.proofs.Walks.{never_both, one_place}
use Rattle.request_course.specs.Cells.{Node, Journals, AreLegal}
use Rattle.request_course.specs.Choices.{SameChoice, choice_of, choice_in}
use Rattle.request_course.specs.Course.{Used, CourseAfter, malformed, unknown_channel, bad_seal, unread, TurnAfter, plain, pull_failed, unfetched, unpulled, pull_stopped, pulled}
use Rattle.request_course.specs.Credentials.{LinkCall}
use Rattle.request_course.specs.Handling.{PullsFor}
use Rattle.request_course.proofs.Growing.{Grows, grown_none}
use Rattle.request_course.proofs.OneCourse.{Goes, left_by, goes_by, goes_agree}
use Rattle.request_course.proofs.Whole.{none_fetched, fetch_is_none, same_texts, same_asked, one_payload, one_rest}

-- ---- a payload for which nothing was fetched, and one for which something was

no_seal : (b : Bool) → PullsFor true b [] → b ≡ false
no_seal true one = let bad : 0 ≡ 1 = one in absurd (omega (arith, bad))
no_seal false none = refl

module _ (n : Node) (K J : Journals) (payload : List ℕ) where
  -- what is answered without a seal is no request under its seal
  unsealed_unasked : (used : Used) (sent : Sent) → CourseAfter n K J payload used sent → is_some sent.key ≡ false → sent.reply ≢ replies.NoMemory → (r : Request) (key : List ℕ) → IsAsked n.channels payload r key → ⊥
  unsealed_unasked used sent (malformed none reads) plainly had r key asked = none r asked.spelled
  unsealed_unasked used sent (unknown_channel q spelled none) plainly had r key asked =
      none-some key (sym none ∙ ap (λ (x : Request). key_of n.channels x.channel) (spelled_once q r payload spelled asked.spelled) ∙ asked.keyed)
  unsealed_unasked used sent (bad_seal q k spelled keyed other) plainly had r key asked =
      let same : k ≡ key = same_Some k key (sym keyed ∙ ap (λ (x : Request). key_of n.channels x.channel) (spelled_once q r payload spelled asked.spelled) ∙ asked.keyed) in
      other (subst (λ (l : List ℕ). IsSealed l payload) (sym same) asked.seal)
  unsealed_unasked used sent unread plainly had r key asked = had refl
  unsealed_unasked used sent _ plainly had r key asked = let bad : true ≡ false = plainly in cc

  unpulled_apart : (pulls : Bool) (used : Used) (sent : Sent) → CourseAfter n K J payload used sent → PullsFor pulls (is_some sent.key) used.pulls → sent.reply ≢ replies.NoMemory →
      (r : Request) (key : List ℕ) → IsAsked n.channels payload r key → (under : Bool) (p : Pull) (ps : List Pull) → PullsFor pulls under (p ∷ ps) → ⊥
  unpulled_apart true used sent c asks had r key asked under p ps one =
      unsealed_unasked used sent c (no_seal (is_some sent.key) (subst (PullsFor true (is_some sent.key)) (none_fetched n K J payload used sent c) asks)) had r key asked
  unpulled_apart false used sent c asks had r key asked under p ps one = fetch_is_none p ps one

-- ---- courses

module _ (n : Node) (K J L : Journals) (payload other : List ℕ) (used others : Used) (sent said : Sent) (c : CourseAfter n K J payload used sent) (d : CourseAfter n K L other others said) (choices : SameChoice (choice_of c) (choice_of d)) where
  courses_alike : payload ≡ other → AreLegal n J → AreLegal n L → sent.reply ≢ replies.NoMemory → said.reply ≢ replies.NoMemory → Grows K J used.places → Grows K L others.places →
      (more less : List ℕ) (rest fewer : List LinkCall) → used.readings ++ more ≡ others.readings ++ less → used.calls ++ rest ≡ others.calls ++ fewer → (more ≡ less) × (rest ≡ fewer) × (J ≡ L) × (sent ≡ said)
  courses_alike one legal lawful had also grows grew more less rest fewer readings calls =
      let a = left_by more rest J sent (choice_of c) in
      let b = left_by less fewer L said (choice_of d) in
      let goes = subst (λ (p : List ℕ). Goes n K p (used.readings ++ more) (used.calls ++ rest) b) (sym one)
      (subst (λ (l : List ℕ). Goes n K other l (used.calls ++ rest) b) (sym readings)
      (subst (λ (l : List LinkCall). Goes n K other (others.readings ++ less) l b) (sym calls) (goes_by n K L other lawful less fewer others said d also grew))) in
      goes_agree n K payload (used.readings ++ more) (used.calls ++ rest) a b choices (goes_by n K J payload legal more rest used sent c had grows) goes

-- ---- turns

heads : (p q : Pull) (ps qs : List Pull) → p ∷ ps ≡ q ∷ qs → (p ≡ q) × (ps ≡ qs)
heads p q ps qs e = (cc, cc)

-- what comes after no fetch
after_none : (first second ps qs : List Pull) → first ≡ [] → second ≡ [] → first ++ ps ≡ second ++ qs → ps ≡ qs
after_none first second ps qs none nothing e = ap (λ (l : List Pull). l ++ ps) (sym none) ∙ e ∙ ap (λ (l : List Pull). l ++ qs) nothing

failed_or_gave : (texts : Texts) (ps qs : List Pull) → fetching.Failed ∷ ps ≡ Gave texts ∷ qs → ⊥
failed_or_gave texts ps qs e = cc

module _ (n : Node) (K J L : Journals) (pulls : Bool) (payload : List ℕ) (legal : AreLegal n J) (lawful : AreLegal n L) where
  -- what came of a payload
  record Taken (M : Journals) (used : Used) (sent : Sent) : Type 0 where
    asks : PullsFor pulls (is_some sent.key) used.pulls
    had : sent.reply ≢ replies.NoMemory
    grows : Grows K M used.places

  -- nothing was added by either
  both_still : (used others : Used) (sent said : Sent) → Taken J used sent → Taken L others said → used.places ≡ [] → others.places ≡ [] → J ≡ L
  both_still used others sent said a b none nothing =
      grown_none K J (subst (Grows K J) none a.grows) ∙ sym (grown_none K L (subst (Grows K L) nothing b.grows))

  -- the same request under the same key
  same_sent : (q r : Request) (k l : List ℕ) (a b : replies.Reply) → IsAsked n.channels payload q k → IsAsked n.channels payload r l → a ≡ b → sealed k q a ≡ sealed l r b
  same_sent q r k l a b x y same =
      let (request, key) = same_asked n payload q r k l x y in
      ap₂ (λ (z : List ℕ) (w : Request). sealed z w a) key request ∙ ap (sealed l r) same

  turns_alike : (used others : Used) (sent said : Sent) (x : TurnAfter n K J payload used sent) (y : TurnAfter n K L payload others said) → SameChoice (choice_in x) (choice_in y) → Taken J used sent → Taken L others said →
      (ps qs : List Pull) (more less : List ℕ) (rest fewer : List LinkCall) → used.pulls ++ ps ≡ others.pulls ++ qs → used.readings ++ more ≡ others.readings ++ less → used.calls ++ rest ≡ others.calls ++ fewer →
      (ps ≡ qs) × (more ≡ less) × (rest ≡ fewer) × (J ≡ L) × (sent ≡ said)
  turns_alike used others sent said (plain c) (plain d) choices a b ps qs more less rest fewer fetched readings calls =
      let (read, behind, journals, same) = courses_alike n K J L payload payload used others sent said c d choices refl legal lawful a.had b.had a.grows b.grows more less rest fewer readings calls in
      (after_none used.pulls others.pulls ps qs (none_fetched n K J payload used sent c) (none_fetched n K L payload others said d) fetched, read, behind, journals, same)
  turns_alike used others sent said (plain c) (pull_failed {r} {key} asked) choices a b ps qs more less rest fewer fetched readings calls = absurd (unpulled_apart n K J payload pulls used sent c a.asks a.had r key asked _ _ _ b.asks)
  turns_alike used others sent said (plain c) (pull_stopped {r} {key} asked failed) choices a b ps qs more less rest fewer fetched readings calls = absurd (unpulled_apart n K J payload pulls used sent c a.asks a.had r key asked _ _ _ b.asks)
  turns_alike used others sent said (plain c) (pulled {r} {key} asked opened d) choices a b ps qs more less rest fewer fetched readings calls = absurd (unpulled_apart n K J payload pulls used sent c a.asks a.had r key asked _ _ _ b.asks)
  turns_alike used others sent said (pull_failed {r} {key} asked) (plain d) choices a b ps qs more less rest fewer fetched readings calls = absurd (unpulled_apart n K L payload pulls others said d b.asks b.had r key asked _ _ _ a.asks)
  turns_alike used others sent said (pull_failed {r} {key} asked) (pull_failed {r = q} {key = k} again) choices a b ps qs more less rest fewer fetched readings calls =
      ((heads fetching.Failed fetching.Failed ps qs fetched).1, readings, calls, both_still used others sent said a b refl refl, same_sent r q key k replies.PullFailed replies.PullFailed asked again refl)
  turns_alike used others sent said (pull_failed asked) (pull_stopped {fetched = texts} again failed) choices a b ps qs more less rest fewer fetched readings calls = absurd (failed_or_gave texts ps qs fetched)
  turns_alike used others sent said (pull_failed asked) (pulled {fetched = texts} {used = after} again opened d) choices a b ps qs more less rest fewer fetched readings calls = absurd (failed_or_gave texts ps (after.pulls ++ qs) fetched)
  turns_alike used others sent said (unfetched asked) y choices a b ps qs more less rest fewer fetched readings calls = absurd (a.had refl)
  turns_alike used others sent said (unpulled asked interrupted) y choices a b ps qs more less rest fewer fetched readings calls = absurd (a.had refl)
  turns_alike used others sent said (pull_stopped {r} {key} asked failed) (plain d) choices a b ps qs more less rest fewer fetched readings calls = absurd (unpulled_apart n K L payload pulls others said d b.asks b.had r key asked _ _ _ a.asks)
  turns_alike used others sent said (pull_stopped {fetched = texts} asked failed) (pull_failed again) choices a b ps qs more less rest fewer fetched readings calls = absurd (failed_or_gave texts qs ps (sym fetched))
  turns_alike used others sent said (pull_stopped {r} {key} {fetched = texts} {calls = by} {place} asked failed) (pull_stopped {r = q} {key = k} {fetched = other} {calls = was} {place = at} again stopped) choices a b ps qs more less rest fewer fetched readings calls =
      let (first, later) = heads (Gave texts) (Gave other) ps qs fetched in
      let (request, one) = same_asked n payload r q key k asked again in
      let looked : within r.certs texts ≡ within q.certs other = ap (λ (z : Request). within z.certs texts) request ∙ ap (within q.certs) (same_texts texts other ps qs fetched) in
      let (there, behind) = one_place n.relay_key (within q.certs other) by was rest fewer place at (subst (λ (ts : Texts). IsFailedAt n.relay_key ts by place) looked failed) stopped
      (ap (λ (l : List LinkCall). l ++ rest) (sym (append-nil by)) ∙ calls ∙ ap (λ (l : List LinkCall). l ++ fewer) (append-nil was)) in
      let index : length r.certs + place ≡ length q.certs + at = ap₂ (λ (z : Request) (k : ℕ). length z.certs + k) request there in
      (later, readings, behind, both_still used others sent said a b refl refl, same_sent r q key k (replies.RelayFailed (length r.certs + place)) (replies.RelayFailed (length q.certs + at)) asked again (ap replies.RelayFailed index))
  turns_alike used others sent said (pull_stopped {r} {key} {fetched = texts} {calls = by} {place} asked failed) (pulled {r = q} {key = k} {fetched = other} {calls = was} {certs = ds} {used = after} again opened d) choices a b ps qs more less rest fewer fetched readings calls =
      let request = (same_asked n payload r q key k asked again).0 in
      let looked : within r.certs texts ≡ within q.certs other = ap (λ (z : Request). within z.certs texts) request ∙ ap (within q.certs) (same_texts texts other ps (after.pulls ++ qs) fetched) in
      absurd (never_both n.relay_key (within q.certs other) by was rest (after.calls ++ fewer) place ds (subst (λ (ts : Texts). IsFailedAt n.relay_key ts by place) looked failed) opened
      (ap (λ (l : List LinkCall). l ++ rest) (sym (append-nil by)) ∙ calls ∙ append_assoc was after.calls fewer))
  turns_alike used others sent said (pulled {r} {key} asked opened c) (plain d) choices a b ps qs more less rest fewer fetched readings calls = absurd (unpulled_apart n K L payload pulls others said d b.asks b.had r key asked _ _ _ a.asks)
  turns_alike used others sent said (pulled {fetched = texts} {used = later} asked opened c) (pull_failed again) choices a b ps qs more less rest fewer fetched readings calls = absurd (failed_or_gave texts qs (later.pulls ++ ps) (sym fetched))
  turns_alike used others sent said (pulled {r} {key} {fetched = texts} {calls = by} {certs} {used = later} asked opened c) (pull_stopped {r = q} {key = k} {fetched = other} {calls = was} {place = at} again stopped) choices a b ps qs more less rest fewer fetched readings calls =
      let request = (same_asked n payload r q key k asked again).0 in
      let looked : within r.certs texts ≡ within q.certs other = ap (λ (z : Request). within z.certs texts) request ∙ ap (within q.certs) (same_texts texts other (later.pulls ++ ps) qs fetched) in
      absurd (never_both n.relay_key (within q.certs other) was by fewer (later.calls ++ rest) at certs stopped (subst (λ (ts : Texts). ArePulled n.relay_key ts by certs) looked opened)
      (ap (λ (l : List LinkCall). l ++ fewer) (sym (append-nil was)) ∙ sym calls ∙ append_assoc by later.calls rest))
  turns_alike used others sent said (pulled {r} {key} {fetched = texts} {calls = by} {certs} {used = later} asked opened c) (pulled {r = q} {key = k} {fetched = other} {calls = was} {certs = ds} {used = after} again opens d) choices a b ps qs more less rest fewer fetched readings calls =
      let alike = same_texts texts other (later.pulls ++ ps) (after.pulls ++ qs) fetched in
      let together = sym (append_assoc by later.calls rest) ∙ calls ∙ append_assoc was after.calls fewer in
      let one = one_payload n payload r q key k asked again texts other alike by was (later.calls ++ rest) (after.calls ++ fewer) certs ds opened opens together in
      let later_on = one_rest n payload r q key k asked again texts other alike by was (later.calls ++ rest) (after.calls ++ fewer) certs ds opened opens together in
      let pulls_behind = (heads (Gave texts) (Gave other) (later.pulls ++ ps) (after.pulls ++ qs) fetched).1 in
      let (read, behind, journals, same) = courses_alike n K J L _ _ later after sent said c d choices one legal lawful a.had b.had a.grows b.grows more less rest fewer readings later_on in
      (after_none later.pulls after.pulls ps qs (none_fetched n K J _ later sent c) (none_fetched n K L _ after said d) pulls_behind, read, behind, journals, same)
  turns_alike used others sent said _ _ choices a b ps qs more less rest fewer fetched readings calls = absurd (b.had refl)

-- the same of the payload under two names, after entries under two names
pub turns_agree : (n : Node) (K J L : Journals) (pulls : Bool) (payload : List ℕ) → AreLegal n J → AreLegal n L → (used others : Used) (sent said : Sent) (x : TurnAfter n K J payload used sent) → PullsFor pulls (is_some sent.key) used.pulls →
    sent.reply ≢ replies.NoMemory → Grows K J used.places → PullsFor pulls (is_some said.key) others.pulls → said.reply ≢ replies.NoMemory → (ps qs : List Pull) (more less : List ℕ) (rest fewer : List LinkCall) →
    used.pulls ++ ps ≡ others.pulls ++ qs → used.readings ++ more ≡ others.readings ++ less → used.calls ++ rest ≡ others.calls ++ fewer → (frame : List ℕ) (start : Journals) → payload ≡ frame → K ≡ start →
    (y : TurnAfter n start L frame others said) → SameChoice (choice_in x) (choice_in y) → Grows start L others.places → (ps ≡ qs) × (more ≡ less) × (rest ≡ fewer) × (J ≡ L) × (sent ≡ said)
turns_agree n K J L pulls payload legal lawful used others sent said x asks had grows asked_too also ps qs more less rest fewer fetched readings calls frame start one same =
    subst (λ (z : List ℕ × Journals). (y : TurnAfter n z.1 L z.0 others said) → SameChoice (choice_in x) (choice_in y) → Grows z.1 L others.places → (ps ≡ qs) × (more ≡ less) × (rest ≡ fewer) × (J ≡ L) × (sent ≡ said)) (λ i. (one i, same i))
    (λ y choices grew. turns_alike n K J L pulls payload legal lawful used others sent said x y choices (record { asks = asks; had = had; grows = grows }) (record { asks = asked_too; had = also; grows = grew }) ps qs more less rest fewer fetched readings calls)
