-- A connection that was served, told by the journals at its end.
use Rattle.std.proofs.Common.{◌≡◌, ℕ, List, [], ◌∷◌, ◌++◌, refl, sym, ap, subst, inr, ◌∙◌, append-nil, append_assoc}
use Rattle.std.specs.Prelude.{Bool, true, false, is_some, get_or, All}
use Rattle.frame_link.specs.declared.outcome.Outcome.{Outcome}
use Rattle.frame_link.specs.declared.outcome.Outcome.TheVariants.{End, Truncated, TooLong, ReadFault, WriteFault, ClockFault, Spent, NoMemory}
use Rattle.frame_link.specs.Served as link
use Rattle.frame_link.specs.Served.{Line, line, Chain, IsServed, HasCauses, IsComplete}
use Rattle.frame_link.proofs.Ends.{unserved}
use Rattle.frame_link.proofs.States.{served_as, held_at_end}
use Rattle.taos_wire.specs.Reply.{spelling}
use Rattle.std.proofs.lemmas.List.{append_cancel_left, map_push}
use Rattle.std.proofs.lemmas.List.Concat.{flat_map-cons}
use Rattle.std.proofs.lemmas.List.Elements.{All-head, All-tail}
use Rattle.cred_pull.specs.Fetching.{Pull}
use Rattle.request_course.specs.Cells.{AreLegal}
use Rattle.request_course.specs.World.{Setting, State, World, clock_faults}
use Rattle.request_course.specs.Course.{Used, fetching}
use Rattle.request_course.specs.Handling.{AreFetched, PullsFor}
use Rattle.request_course.specs.Connection.{AnswersFrame, GivesUpFrame, IsConnection, Connects}
use Rattle.request_course.specs.Serving.{StepsTo, StopsIn}
use Rattle.request_course.specs.Run.{Turn, frames_of, readings_of, pulls_of, calls_of, places_of, replies_of, AreTurns}
use Rattle.request_course.proofs.Whole.{turns_are_whole}
use Rattle.relay_core.proofs.Counting.{linked_both}
use Rattle.request_course.proofs.Steps.{gave_on, pulls_on, Made, none_made, turn_of, one_more}

-- what turns used together
abbrev used_by : List Turn → Used
used_by turns = fetching (pulls_of turns) (readings_of turns) (calls_of turns) (places_of turns)

module _ (s : Setting) where
  -- these frames had courses, and these replies
  record Told (w0 w1 : World) (frames replies : List (List ℕ)) : Type 0 where
    turns : List Turn
    made : Made s w0 w1 turns
    frames_are : frames_of turns ≡ frames
    replies_are : replies_of turns ≡ replies

  told_more : (w0 w1 w2 : World) (frames replies : List (List ℕ)) (payload reply : List ℕ) → Told w0 w1 frames replies → AnswersFrame s w1 payload reply w2 →
      Told w0 w2 (frames ++ payload ∷ []) (replies ++ reply ∷ [])
  told_more w0 w1 w2 frames replies payload reply told x =
      let t = turn_of s w1 payload reply w2 x in
      record {
        turns = told.turns ++ t ∷ [];
        made = one_more s w0 w1 w2 told.turns payload reply told.made x;
        frames_are = map_push (λ (u : Turn). u.frame) told.turns t ∙ ap (λ (l : List (List ℕ)). l ++ payload ∷ []) told.frames_are;
        replies_are = map_push (λ (u : Turn). spelling u.sent) told.turns t ∙ ap (λ (l : List (List ℕ)). l ++ spelling x.sent ∷ []) told.replies_are
            ∙ ap (λ (b : List ℕ). replies ++ b ∷ []) (sym x.spelled);
      }

  told_on : (w0 w1 w2 : World) (frames replies : List (List ℕ)) (turns : List link.Turn) → Told w0 w1 frames replies → Chain (AnswersFrame s) w1 turns w2 →
      Told w0 w2 (frames ++ link.payloads_of turns) (replies ++ link.replies_of turns)
  told_on w0 w1 w2 frames replies [] told chain = record {
    turns = told.turns;
    made = subst (λ (w : World). Made s w0 w told.turns) (sym chain) told.made;
    frames_are = told.frames_are ∙ sym (append-nil frames);
    replies_are = told.replies_are ∙ sym (append-nil replies);
  }
  told_on w0 w1 w2 frames replies (turn ∷ turns) told chain =
      let next = told_more w0 w1 chain.0 frames replies turn.payload turn.reply told chain.1 in
      let all = told_on w0 chain.0 w2 (frames ++ turn.payload ∷ []) (replies ++ turn.reply ∷ []) turns next chain.2 in
      record {
        turns = all.turns;
        made = all.made;
        frames_are = all.frames_are ∙ append_assoc frames (turn.payload ∷ []) (link.payloads_of turns);
        replies_are = all.replies_are ∙ append_assoc replies (turn.reply ∷ []) (link.replies_of turns);
      }

  told_all : (w0 w1 : World) (turns : List link.Turn) → AreLegal s.node w0.seen.journals → Chain (AnswersFrame s) w0 turns w1 → Told w0 w1 (link.payloads_of turns) (link.replies_of turns)
  told_all w0 w1 turns legal chain = told_on w0 w0 w1 [] [] turns (record { turns = []; made = none_made s w0 legal; frames_are = refl; replies_are = refl }) chain

  module _ (limit : ℕ) (before after : Line World) (legal : AreLegal s.node before.service.seen.journals) where
    -- each frame was answered
    answered_all : (outcome : Outcome) → (outcome ≡ ClockFault → ⊥) → (served : IsServed (AnswersFrame s) (GivesUpFrame s) limit before after outcome) (told : Told before.service after.service (link.payloads_of served.turns) (link.replies_of served.turns)) →
        AreTurns s.node outcome told.turns served.payloads (used_by told.turns) → IsConnection s limit before after outcome
    answered_all outcome not_clock served told in_order = record {
      served = served;
      used = used_by told.turns;
      goes_on = told.made.goes_on;
      legal = told.made.legal;
      answered = record {
        turns = told.turns;
        courses = told.made.courses;
        in_order = in_order;
        read = refl;
        owned = refl;
        ascending = told.made.goes_on.ascending;
        filled = told.made.filled;
        replies_are = sym told.replies_are;
      };
      gave = told.made.gave;
      linked = told.made.linked;
      fetched = told.made.fetched;
      asked = told.made.asked;
      last_asked = λ faulty. absurd (not_clock faulty);
    }

    -- the clock failed at the last frame
    unclocked : (served : IsServed (AnswersFrame s) (GivesUpFrame s) limit before after ClockFault) → IsConnection s limit before after ClockFault
    unclocked served =
        let a = served.answered in
        let u = a.given_up in
        let told = told_all before.service a.middle served.turns legal a.chain in
        record {
          served = served;
          used = fetching (pulls_of told.turns ++ u.pulls) (readings_of told.turns ++ []) (calls_of told.turns ++ u.calls) (places_of told.turns);
          goes_on = rw u.unchanged told.made.goes_on;
          legal = rw u.unchanged told.made.legal;
          answered = record {
            turns = told.turns;
            courses = rw u.unchanged told.made.courses;
            in_order = (
              a.last,
              u.pulls,
              u.calls,
              u.come,
              a.all ∙ ap (λ (l : List (List ℕ)). l ++ a.last ∷ []) (sym told.frames_are),
              refl,
              refl,
            );
            read = append-nil (readings_of told.turns);
            owned = refl;
            ascending = told.made.goes_on.ascending;
            filled = rw u.unchanged told.made.filled;
            replies_are = sym told.replies_are;
          };
          gave = gave_on before.service.outside.clock.told a.middle.outside.clock.told after.service.outside.clock.told (readings_of told.turns) [] told.made.gave u.keeps;
          linked = linked_both s.node.number before.service.outside.link a.middle.outside.link after.service.outside.link (calls_of told.turns) u.calls told.made.linked u.linked;
          fetched = pulls_on before.service.fetch a.middle.fetch after.service.fetch (pulls_of told.turns) u.pulls told.made.fetched u.fetched;
          asked = told.made.asked;
          last_asked = λ faulty last is. subst (λ (b : Bool). PullsFor b true last) told.made.fetched.0 (subst (PullsFor a.middle.fetch.pulls true) (append_cancel_left (pulls_of told.turns) u.pulls last is) u.asked);
        }

    whole : (outcome : Outcome) → (outcome ≡ ClockFault → ⊥) → (served : IsServed (AnswersFrame s) (GivesUpFrame s) limit before after outcome) → (a : (served.payloads ≡ link.payloads_of served.turns) × Chain (AnswersFrame s) before.service served.turns after.service) →
        ((turns : List Turn) → served.payloads ≡ frames_of turns → AreTurns s.node outcome turns served.payloads (used_by turns)) → IsConnection s limit before after outcome
    whole outcome not_clock served a in_order =
        let told = told_all before.service after.service served.turns legal a.1 in
        answered_all outcome not_clock served told (in_order told.turns (a.0 ∙ sym told.frames_are))

    pub connection_of : (outcome : Outcome) → IsServed (AnswersFrame s) (GivesUpFrame s) limit before after outcome → IsConnection s limit before after outcome
    connection_of (End n) served = whole (End n) (λ e. cc) served served.answered (λ turns are. (are, refl, refl))
    connection_of (Truncated have) served = whole (Truncated have) (λ e. cc) served served.answered (λ turns are. (are, refl, refl))
    connection_of (TooLong n) served = whole (TooLong n) (λ e. cc) served served.answered (λ turns are. (are, refl, refl))
    connection_of ReadFault served = whole ReadFault (λ e. cc) served served.answered (λ turns are. (are, refl, refl))
    connection_of WriteFault served = whole WriteFault (λ e. cc) served served.answered (λ turns are. (are, refl, refl))
    connection_of ClockFault served = unclocked served
    connection_of (Spent n) served = whole (Spent n) (λ e. cc) served served.answered (λ turns are. (are, refl, refl))
    connection_of NoMemory served = whole NoMemory (λ e. cc) served served.answered (λ turns are. (are, refl, refl))

  -- memory was refused before the first frame
  pub none_served : (limit : ℕ) (l : Line World) → AreLegal s.node l.service.seen.journals → IsConnection s limit l l NoMemory
  none_served limit l legal = connection_of limit l l legal NoMemory (unserved (AnswersFrame s) (GivesUpFrame s) limit l)

  -- a connection, with its causes
  pub connects : (limit : ℕ) (before after : Line World) (outcome : Outcome) → IsConnection s limit before after outcome → HasCauses clock_faults before after outcome → IsComplete clock_faults limit before after outcome → Connects s limit before after outcome
  connects limit before after outcome is causes complete = record {
    connection = is;
    causes = causes;
    complete = complete;
    whole = λ still unfailed.
        turns_are_whole s.node after.service.seen.journals is.used is.served.payloads (link.replies_of is.served.turns) outcome before.service.outside.link.faults after.service.outside.link.faults before.service.fetch.seen after.service.fetch.seen
        is.legal is.answered is.linked.failed is.fetched.1 still unfailed;
  }

  pub none_connects : (limit : ℕ) (l : Line World) → AreLegal s.node l.service.seen.journals → Connects s limit l l NoMemory
  none_connects limit l legal = connects limit l l NoMemory (none_served limit l legal) refl (λ payloads whole within few still. inr refl)

-- ---- a service that has such states

module _ {S : Type 0} (state : S → State) (setting : Setting) where
  abbrev pub Steps : S → List ℕ → List ℕ → S → Type 0
  Steps s payload reply t = StepsTo (state s) payload reply (state t)

  abbrev pub Stops : S → List ℕ → S → Type 0
  Stops s payload t = StopsIn (state s) payload (state t)

  -- the setting is that one
  abbrev Holds : S → Type 0
  Holds s = (state s).setting ≡ setting

  abbrev world : S → World
  world s = (state s).world

  steps_on : (s : S) (payload reply : List ℕ) (t : S) → Holds s → Steps s payload reply t → Holds t × AnswersFrame setting (world s) payload reply (world t)
  steps_on s payload reply t holds a = (a.0.setting ∙ holds, subst (λ (x : Setting). AnswersFrame x (world s) payload reply (world t)) holds a.1)

  stops_on : (s : S) (payload : List ℕ) (t : S) → Holds s → Stops s payload t → GivesUpFrame setting (world s) payload (world t)
  stops_on s payload t holds a = subst (λ (x : Setting). GivesUpFrame x (world s) payload (world t)) holds a.1

  -- a connection that it served, and that what stays did so to the end
  pub connection_by : (limit : ℕ) (before after : Line S) (outcome : Outcome) → Holds before.service → AreLegal setting.node (world before.service).seen.journals → IsServed Steps Stops limit before after outcome →
      IsConnection setting limit (line before.input before.output (world before.service)) (line after.input after.output (world after.service)) outcome × Holds after.service
  connection_by limit before after outcome holds legal served = (
    connection_of setting limit (line before.input before.output (world before.service)) (line after.input after.output (world after.service)) legal outcome
        (served_as Steps Stops (AnswersFrame setting) (GivesUpFrame setting) Holds world steps_on stops_on limit before after outcome holds served),
    held_at_end Steps Stops Holds (λ s payload reply t h a. a.0.setting ∙ h) (λ s payload t h a. a.0.setting ∙ h) limit before after outcome holds served,
  )

-- ---- where nothing is fetched

-- turns for which nothing was fetched
none_in : (turns : List Turn) → All (λ (t : Turn). t.used.pulls ≡ []) turns → pulls_of turns ≡ []
none_in [] none = refl
none_in (t ∷ turns) none =
    flat_map-cons (λ (u : Turn). u.used.pulls) t turns ∙ ap (λ (l : List Pull). l ++ pulls_of turns) (All-head (λ (u : Turn). u.used.pulls ≡ []) t turns none) ∙ none_in turns (All-tail (λ (u : Turn). u.used.pulls ≡ []) t turns none)

module _ (s : Setting) (limit : ℕ) (before after : Line World) (outcome : Outcome) (x : IsConnection s limit before after outcome) (none : before.service.fetch.pulls ≡ false) where
  none_before : pulls_of x.answered.turns ≡ []
  none_before = none_in x.answered.turns (λ k d lt. let t = get_or x.answered.turns k d in subst (λ (b : Bool). PullsFor b (is_some t.sent.key) t.used.pulls) none (x.asked k d lt))

  pub unpulled : x.used.pulls ≡ []
  unpulled = by_turns outcome refl x.answered.in_order
    where
      by_turns : (o : Outcome) → outcome ≡ o → AreTurns s.node o x.answered.turns x.served.payloads x.used → x.used.pulls ≡ []
      by_turns (End n) is are = are.1 ∙ none_before
      by_turns (Truncated have) is are = are.1 ∙ none_before
      by_turns (TooLong n) is are = are.1 ∙ none_before
      by_turns ReadFault is are = are.1 ∙ none_before
      by_turns WriteFault is are = are.1 ∙ none_before
      by_turns ClockFault is (last, pulls, calls, come, frames, all, called) =
          all ∙ ap (λ (l : List Pull). l ++ pulls) none_before ∙ subst (λ (b : Bool). PullsFor b true pulls) none (x.last_asked is pulls all)
      by_turns (Spent n) is are = are.1 ∙ none_before
      by_turns NoMemory is are = are.1 ∙ none_before

  -- the fetch is as it was
  pub unfetched : after.service.fetch.seen ≡ before.service.fetch.seen
  unfetched = subst (AreFetched before.service.fetch.seen after.service.fetch.seen) unpulled x.fetched.1
