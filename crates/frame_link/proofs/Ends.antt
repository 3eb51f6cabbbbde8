-- What serving does, by what came in place of the next frame.
use Rattle.std.proofs.Common.{◌≡◌, ◌⊎◌, ℕ, zero, suc, ◌+◌, ◌<◌, ◌≤◌, ◌^◌, List, [], ◌∷◌, ◌++◌, length, take, refl, sym, ap, subst, ◌∙◌, append-nil, arith, inl, inr}
use Rattle.std.specs.Prelude.{All}
use Rattle.std.specs.Int.{w32, to_be_bytes}
use Rattle.std.specs.Io.KnownBytes.{Consumes, IsAtEnd, Keeps}
use Rattle.std.proofs.KnownBytes.{Consumes-nil, Consumes-kept, Consumes-trans, Appends-nil, Appends-trans}
use Rattle.std.proofs.lemmas.List.{length-append, length-map}
use Rattle.std.proofs.lemmas.List.Elements.{All-nil, All-push}
use Rattle.frame_link.specs.declared.frame.Next.TheVariants as next
use Rattle.frame_link.specs.declared.frame.Put.TheVariants as put
use Rattle.frame_link.specs.declared.outcome.Outcome.{Outcome}
use Rattle.frame_link.specs.declared.outcome.Outcome.TheVariants.{End, Truncated, TooLong, ReadFault, WriteFault, ClockFault, Spent, NoMemory}
use Rattle.frame_link.specs.Frames.{framed, IsPart, in_word, IsTooLong, Splits}
use Rattle.frame_link.specs.Next.{TakesFrame, Puts}
use Rattle.frame_link.specs.Streams.{Stream}
use Rattle.frame_link.specs.Served.{Line, line, Turn, payloads_of, replies_of, AreAnswered, EndsAs, IsWritten, IsServed}
use Rattle.frame_link.proofs.Turns.{payloads_on, replies_on, taken_on, chain_on, Progress}

pub empty_part : IsPart 65536 []
empty_part = in_word (omega arith)

too_long : (n : ℕ) → 65536 < n → n < 2 ^ 32 → IsTooLong 65536 (to_be_bytes w32 n)
too_long n above fits = record { length_word = n; behind = []; above = above; fits = fits; text = sym (append-nil (to_be_bytes w32 n)) }

counted : (turns : List Turn) (n : ℕ) → length turns ≡ n → length (payloads_of turns) ≡ n
counted turns n is = length-map turns (λ (t : Turn). t.payload) ∙ is

within_on : (payloads : List (List ℕ)) (payload : List ℕ) → All (λ p. length p ≤ 65536) payloads → length payload ≤ 65536 → All (λ p. length p ≤ 65536) (payloads ++ payload ∷ [])
within_on payloads payload within short = All-push (λ p. length p ≤ 65536) payloads payload within short

-- whole frames, and then a rest that is none
splits : (payloads : List (List ℕ)) (rest : List ℕ) → All (λ p. length p ≤ 65536) payloads → IsPart 65536 rest ⊎ IsTooLong 65536 rest → Splits 65536 (framed payloads ++ rest) payloads rest
splits payloads rest within no_more = record { whole = refl; each = within; no_more = no_more }

module _ {S : Type 0} (answers : S → List ℕ → List ℕ → S → Type 0) (gives_up : S → List ℕ → S → Type 0) where
  -- each whole frame has its turn, and the replies were all written
  ends : (count limit : ℕ) (l0 l1 : Line S) (after : Stream) (outcome : Outcome) (p : Progress answers count l0 l1) → count ≤ limit → (rest : List ℕ) → Consumes l1.input.told after.told rest →
      IsPart 65536 rest ⊎ IsTooLong 65536 rest → EndsAs limit (payloads_of p.turns) rest after outcome → AreAnswered answers gives_up l0.service (payloads_of p.turns) p.turns l1.service outcome →
      IsWritten outcome (replies_of p.turns) (framed (replies_of p.turns)) → IsServed answers gives_up limit l0 (line after l1.output l1.service) outcome
  ends count limit l0 l1 after outcome p few rest came no_more ended answered went = record {
    taken = framed (payloads_of p.turns) ++ rest;
    payloads = payloads_of p.turns;
    rest = rest;
    turns = p.turns;
    written = framed (replies_of p.turns);
    took = Consumes-trans l0.input.told l1.input.told after.told (framed (payloads_of p.turns)) rest p.taken came;
    splits = splits (payloads_of p.turns) rest p.within no_more;
    few = omega (arith, counted p.turns count p.counted, few);
    ended = ended;
    answered = answered;
    went = went;
    wrote = p.wrote;
  }

  pub at_end : (count limit : ℕ) (l0 l1 : Line S) (after : Stream) → count ≤ limit → Progress answers count l0 l1 → TakesFrame 65536 l1.input after [] next.End →
      IsServed answers gives_up limit l0 (line after l1.output l1.service) (End count)
  at_end count limit l0 l1 after few p came =
      ends count limit l0 l1 after (End count) p few [] came.0 (inl empty_part) (refl, sym (counted p.turns count p.counted), came.1) (refl, p.chain) refl

  pub truncated : (count limit have : ℕ) (l0 l1 : Line S) (after : Stream) → count ≤ limit → Progress answers count l0 l1 → TakesFrame 65536 l1.input after [] (next.Truncated have) →
      IsServed answers gives_up limit l0 (line after l1.output l1.service) (Truncated have)
  truncated count limit have l0 l1 after few p came =
      ends count limit l0 l1 after (Truncated have) p few came.0 came.4 (inl came.1) (came.1, came.2, came.3, came.5) (refl, p.chain) refl

  pub above : (count limit n : ℕ) (l0 l1 : Line S) (after : Stream) → count ≤ limit → Progress answers count l0 l1 → TakesFrame 65536 l1.input after [] (next.TooLong n) →
      IsServed answers gives_up limit l0 (line after l1.output l1.service) (TooLong n)
  above count limit n l0 l1 after few p came =
      ends count limit l0 l1 after (TooLong n) p few (to_be_bytes w32 n) came.2 (inr (too_long n came.0 came.1)) (refl, came.0, came.1) (refl, p.chain) refl

  pub unread : (count limit : ℕ) (l0 l1 : Line S) (after : Stream) → count ≤ limit → Progress answers count l0 l1 → TakesFrame 65536 l1.input after [] next.ReadFault →
      IsServed answers gives_up limit l0 (line after l1.output l1.service) ReadFault
  unread count limit l0 l1 after few p came =
      ends count limit l0 l1 after ReadFault p few came.0 came.2 (inl came.1) came.1 (refl, p.chain) refl

  pub spent : (limit b : ℕ) (l0 l1 : Line S) (after : Stream) → Progress answers limit l0 l1 → Consumes l1.input.told after.told (b ∷ []) →
      IsServed answers gives_up limit l0 (line after l1.output l1.service) (Spent limit)
  spent limit b l0 l1 after p came =
      ends limit limit l0 l1 after (Spent limit) p (omega arith) (b ∷ []) came (inl (in_word (omega arith))) (refl, sym (counted p.turns limit p.counted), refl) (refl, p.chain) refl

  -- one frame more was taken, and its reply was written in part
  pub cut : (count limit : ℕ) (l0 l1 l2 : Line S) (payload reply : List ℕ) → count < limit → Progress answers count l0 l1 → TakesFrame 65536 l1.input l2.input payload next.Frame →
      answers l1.service payload reply l2.service → Puts l1.output l2.output reply put.WriteFault → IsServed answers gives_up limit l0 l2 WriteFault
  cut count limit l0 l1 l2 payload reply few p came answered wrote =
      let t : Turn = record { payload = payload; reply = reply } in
      let payloads : List (List ℕ) = payloads_of p.turns ++ payload ∷ [] in
      let n : length payloads ≡ count + 1 = length-append (payloads_of p.turns) (payload ∷ []) ∙ ap (λ n. n + 1) (counted p.turns count p.counted) in
      record {
        taken = framed payloads ++ [];
        payloads = payloads;
        rest = [];
        turns = p.turns ++ t ∷ [];
        written = framed (replies_of p.turns) ++ wrote.0;
        took = subst (Consumes l0.input.told l2.input.told) (sym (append-nil (framed payloads))) (taken_on (payloads_of p.turns) payload l0.input.told l1.input.told l2.input.told p.taken came.1);
        splits = splits payloads [] (within_on (payloads_of p.turns) payload p.within came.0) (inl empty_part);
        few = omega (arith, n, few);
        ended = (refl, omega (arith, n));
        answered = (sym (payloads_on p.turns t), chain_on answers l0.service l1.service l2.service p.turns t p.chain answered);
        went = (replies_of p.turns, reply, wrote.0, wrote.1, replies_on p.turns t, wrote.2, wrote.3, refl);
        wrote = Appends-trans l0.output.told l1.output.told l2.output.told (framed (replies_of p.turns)) wrote.0 p.wrote wrote.4;
      }

  -- one frame more was taken, and given up
  pub dropped : (count limit : ℕ) (l0 l1 : Line S) (after : Stream) (last : S) (payload : List ℕ) → count < limit → Progress answers count l0 l1 → TakesFrame 65536 l1.input after payload next.Frame →
      gives_up l1.service payload last → IsServed answers gives_up limit l0 (line after l1.output last) ClockFault
  dropped count limit l0 l1 after last payload few p came given_up =
      let payloads : List (List ℕ) = payloads_of p.turns ++ payload ∷ [] in
      let n : length payloads ≡ count + 1 = length-append (payloads_of p.turns) (payload ∷ []) ∙ ap (λ n. n + 1) (counted p.turns count p.counted) in
      record {
        taken = framed payloads ++ [];
        payloads = payloads;
        rest = [];
        turns = p.turns;
        written = framed (replies_of p.turns);
        took = subst (Consumes l0.input.told after.told) (sym (append-nil (framed payloads))) (taken_on (payloads_of p.turns) payload l0.input.told l1.input.told after.told p.taken came.1);
        splits = splits payloads [] (within_on (payloads_of p.turns) payload p.within came.0) (inl empty_part);
        few = omega (arith, n, few);
        ended = refl;
        answered = record { last = payload; middle = l1.service; all = refl; chain = p.chain; given_up = given_up };
        went = refl;
        wrote = p.wrote;
      }

  -- memory was refused before the first frame
  pub unserved : (limit : ℕ) (l : Line S) → IsServed answers gives_up limit l l NoMemory
  unserved limit l = record {
    taken = [];
    payloads = [];
    rest = [];
    turns = [];
    written = [];
    took = Consumes-nil l.input.told;
    splits = splits [] [] (All-nil (λ p. length p ≤ 65536)) (inl empty_part);
    few = omega arith;
    ended = (refl, refl);
    answered = (refl, refl);
    went = refl;
    wrote = Appends-nil l.output.told;
  }

-- ---- one byte more is asked for, after the last frame

pub nothing_read : (before after : Stream) → Keeps before.told after.told → TakesFrame 65536 before after [] next.ReadFault
nothing_read before after kept = ([], empty_part, Consumes-kept before.told before.told after.told [] (Consumes-nil before.told) kept)

pub at_its_end : (before after : Stream) (into : List ℕ) (n : ℕ) → n ≡ 0 → length into ≡ 1 → Consumes before.told after.told (take n into) × (n ≡ 0 → 0 < length into → IsAtEnd after.told) → TakesFrame 65536 before after [] next.End
at_its_end before after into n none room (came, ends) = (subst (λ (k : ℕ). Consumes before.told after.told (take k into)) none came, ends none (omega (arith, room)))

abbrev no_bytes : List ℕ
no_bytes = []

take_none : (n : ℕ) → take n no_bytes ≡ []
take_none zero = refl
take_none (suc n) = refl

pub one_byte : (into : List ℕ) (n : ℕ) → length into ≡ 1 → 0 < n → (b : ℕ) × (take n into ≡ b ∷ [])
one_byte [] n room some = absurd (omega (arith, room))
one_byte (b ∷ []) zero room some = absurd (omega (arith, some))
one_byte (b ∷ []) (suc n) room some = (b, ap (λ (l : List ℕ). b ∷ l) (take_none n))
one_byte (b ∷ c ∷ more) n room some = absurd (omega (arith, room))
