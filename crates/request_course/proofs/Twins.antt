-- Connections alike write the same replies and leave the same entries, where nobody else steps a cell.
use Rattle.std.proofs.Common.{◌≡◌, ℕ, Bool, List, [], ◌∷◌, ◌++◌, refl, sym, ap, subst, ◌∙◌, arith}
use Rattle.std.specs.Prelude.{is_some}
use Rattle.std.proofs.lemmas.List.Concat.{flat_map-cons}
use Rattle.std.proofs.lemmas.List.Elements.{All-head, All-tail}
use Rattle.frame_link.specs.declared.outcome.Outcome.{Outcome}
use Rattle.frame_link.specs.declared.outcome.Outcome.TheVariants.{ClockFault}
use Rattle.frame_link.specs.Frames.{Splits}
use Rattle.frame_link.proofs.Splits.{split_once}
use Rattle.frame_link.specs.Served as link
use Rattle.frame_link.specs.Served.{Line, Chain, IsServed}
use Rattle.taos_wire.specs.Reply.{spelling}
use Rattle.cred_pull.specs.Fetching.{Pull}
use Rattle.request_course.specs.Cells.{Seen}
use Rattle.request_course.specs.World.{Setting, World}
use Rattle.request_course.specs.Credentials.{LinkCall}
use Rattle.request_course.specs.Handling.{PullsFor}
use Rattle.request_course.specs.Run.{Turn, frames_of, readings_of, pulls_of, calls_of}
use Rattle.request_course.specs.Connection.{AnswersFrame, GivesUpFrame}
use Rattle.request_course.specs.Choices.{Answer, choice_in, turns_of, answer_by, answers_by, answers_in, SameChoice, HadMemory, AreAlike, IsAlone, AnswersAgree, ConnectionsAgree, FramesAreRead}
use Rattle.request_course.proofs.Growing.{grows_alone}
use Rattle.request_course.proofs.PullsApart.{turns_agree}

heads : {X : Type 0} (x y : X) (xs ys : List X) → x ∷ xs ≡ y ∷ ys → (x ≡ y) × (xs ≡ ys)
heads x y xs ys e = (cc, cc)

none_some : {X : Type 0} (x : X) (xs : List X) → [] ≡ x ∷ xs → ⊥
none_some x xs e = absurd cc

module _ (s : Setting) (lone : IsAlone s) where
  -- ---- one frame

  module _ (w v : World) (payload reply : List ℕ) (x : AnswersFrame s w payload reply v) (start final : World) (frame other : List ℕ) (y : AnswersFrame s start frame other final) where
    frames_agree : payload ≡ frame → w.seen.journals ≡ start.seen.journals → w.fetch.pulls ≡ start.fetch.pulls → (ps qs : List Pull) (more less : List ℕ) (rest fewer : List LinkCall) → x.used.pulls ++ ps ≡ y.used.pulls ++ qs → x.used.readings ++ more ≡ y.used.readings ++ less →
        x.used.calls ++ rest ≡ y.used.calls ++ fewer → SameChoice (choice_in x.course) (choice_in y.course) → HadMemory (answer_by s w payload reply v x) → HadMemory (answer_by s start frame other final y) →
        (ps ≡ qs) × (more ≡ less) × (rest ≡ fewer) × (v.seen.journals ≡ final.seen.journals) × (reply ≡ other)
    frames_agree one same both ps qs more less rest fewer pulls readings calls choices had also =
        let all = turns_agree s.node w.seen.journals v.seen.journals final.seen.journals w.fetch.pulls payload x.legal y.legal x.used y.used x.sent y.sent x.course x.asked had (grows_alone s.alone lone w.seen v.seen x.used.places x.goes_on)
        (subst (λ (b : Bool). PullsFor b (is_some y.sent.key) y.used.pulls) (sym both) y.asked) also ps qs more less rest fewer pulls readings calls frame start.seen.journals one same y.course choices (grows_alone s.alone lone start.seen final.seen y.used.places y.goes_on) in
        (all.0, all.1, all.2, all.3, x.spelled ∙ ap spelling all.4 ∙ sym y.spelled)

  -- ---- all frames

  chains_agree : (ts us : List link.Turn) (w v start final : World) (c : Chain (AnswersFrame s) w ts v) (d : Chain (AnswersFrame s) start us final) → w.seen.journals ≡ start.seen.journals → w.fetch.pulls ≡ start.fetch.pulls → AreAlike (answers_by s w ts v c) (answers_by s start us final d) →
      (link.replies_of ts ≡ link.replies_of us) × (v.seen.journals ≡ final.seen.journals)
  chains_agree [] [] w v start final c d same both alike = (refl, ap (λ (z : World). z.seen.journals) c ∙ same ∙ ap (λ (z : World). z.seen.journals) (sym d))
  chains_agree [] (u ∷ us) w v start final c d same both alike = absurd (none_some u.payload (frames_of (turns_of (answers_by s d.0 us final d.2))) alike.frames)
  chains_agree (t ∷ ts) [] w v start final c d same both alike = absurd (none_some t.payload (frames_of (turns_of (answers_by s c.0 ts v c.2))) (sym alike.frames))
  chains_agree (t ∷ ts) (u ∷ us) w v start final (next, x, c) (after, y, d) same both alike =
      let xs = answers_by s next ts v c in
      let ys = answers_by s after us final d in
      let a = answer_by s w t.payload t.reply next x in
      let b = answer_by s start u.payload u.reply after y in
      let (frame, frames) = heads t.payload u.payload (frames_of (turns_of xs)) (frames_of (turns_of ys)) alike.frames in
      let readings = sym (flat_map-cons (λ (z : Turn). z.used.readings) a.turn (turns_of xs)) ∙ alike.readings ∙ flat_map-cons (λ (z : Turn). z.used.readings) b.turn (turns_of ys) in
      let pulls = sym (flat_map-cons (λ (z : Turn). z.used.pulls) a.turn (turns_of xs)) ∙ alike.pulls ∙ flat_map-cons (λ (z : Turn). z.used.pulls) b.turn (turns_of ys) in
      let calls = sym (flat_map-cons (λ (z : Turn). z.used.calls) a.turn (turns_of xs)) ∙ alike.calls ∙ flat_map-cons (λ (z : Turn). z.used.calls) b.turn (turns_of ys) in
      let one = frames_agree w next t.payload t.reply x start after u.payload u.reply y frame same both (pulls_of (turns_of xs)) (pulls_of (turns_of ys)) (readings_of (turns_of xs)) (readings_of (turns_of ys)) (calls_of (turns_of xs)) (calls_of (turns_of ys)) pulls readings calls alike.choices.0
      (All-head HadMemory a xs alike.had_memory) (All-head HadMemory b ys alike.others_had) in
      let rest = chains_agree ts us next v after final c d one.3 (x.fetched.0 ∙ both ∙ sym y.fetched.0) (record {
        frames = frames;
        pulls = one.0;
        readings = one.1;
        calls = one.2;
        choices = alike.choices.1;
        had_memory = All-tail HadMemory a xs alike.had_memory;
        others_had = All-tail HadMemory b ys alike.others_had;
      }) in
      (ap (λ (l : List ℕ). l ∷ link.replies_of ts) one.4 ∙ ap (λ (l : List (List ℕ)). u.reply ∷ l) rest.0, rest.1)

  -- ---- a connection

  -- the answers of a connection are those of a chain, which left the same entries
  record Chained (limit : ℕ) (before after : Line World) (outcome : Outcome) (x : IsServed (AnswersFrame s) (GivesUpFrame s) limit before after outcome) : Type 0 where
    final : World
    chain : Chain (AnswersFrame s) before.service x.turns final
    answers : answers_in s limit before after outcome x ≡ answers_by s before.service x.turns final chain
    seen : after.service.seen ≡ final.seen

  module _ (limit : ℕ) (before after : Line World) where
    chained : (outcome : Outcome) (x : IsServed (AnswersFrame s) (GivesUpFrame s) limit before after outcome) → Chained limit before after outcome x
    chained ClockFault x = record { final = x.answered.middle; chain = x.answered.chain; answers = refl; seen = x.answered.given_up.unchanged }
    chained _ x = record { final = after.service; chain = x.answered.1; answers = refl; seen = refl }

-- ---- the laws

pub connections_agree : (s : Setting) → ConnectionsAgree s
connections_agree s lone limit most before after start final outcome other x y same both alike =
    let c = chained s lone limit before after outcome x.served in
    let d = chained s lone most start final other y.served in
    let ends = chains_agree s lone x.served.turns y.served.turns before.service c.final start.service d.final c.chain d.chain same both
    (subst (λ (l : List Answer). AreAlike l (answers_by s start.service y.served.turns d.final d.chain)) c.answers (subst (AreAlike (answers_in s limit before after outcome x.served)) d.answers alike)) in
    (ends.0, ap (λ (z : Seen). z.journals) c.seen ∙ ends.1 ∙ ap (λ (z : Seen). z.journals) (sym d.seen))

pub answers_agree : (s : Setting) → AnswersAgree s
answers_agree s lone payload reply other before after start final x y same both alike =
    let t : link.Turn = record { payload = payload; reply = reply } in
    let u : link.Turn = record { payload = payload; reply = other } in
    let ends = chains_agree s lone (t ∷ []) (u ∷ []) before after start final (after, x, refl) (final, y, refl) same both alike in
    ((heads reply other [] [] ends.0).0, ends.1)

pub frames_are_read : (s : Setting) → FramesAreRead s
frames_are_read s limit most before after start final outcome other x y same =
    (split_once 65536 y.served.taken x.served.payloads y.served.payloads x.served.rest y.served.rest (omega arith)
    (subst (λ (l : List ℕ). Splits 65536 l x.served.payloads x.served.rest) same x.served.splits) y.served.splits).0
