-- Fetched certificates that are pulled one by one, and where that stops.
use Rattle.std.proofs.Common.{◌≡◌, ◌≢◌, ℕ, ◌+◌, ◌-◌, ◌<◌, ◌≤◌, min, List, [], ◌∷◌, ◌++◌, length, take, drop, map, refl, sym, ap, subst, ◌∙◌, append_assoc, append-nil, inl, inr, arith, get_or}
use Rattle.std.specs.Prelude.{Vec}
use Rattle.std.specs.declared.alloc.Global.{Global}
use Rattle.std.proofs.lemmas.List.{length-map, length-take-le, map-append, map_more, take-append-drop, take-map, take_min}
use Rattle.std.proofs.lemmas.List.Elements.{All-nil, All-cons}
use Rattle.sealed_cert.specs.Seals.{sealed}
use Rattle.stmt_codec.specs.Certificates.{Certificate, body_spelling, IsWithinLimits}
use Rattle.frame_link.specs.Lent.{Lent, Nothing, To, Both}
use Rattle.frame_link.specs.Relay.{Link}
use Rattle.relay_core.specs.Credentials as credentials
use Rattle.relay_core.specs.Credentials.{LinkAnswer, Resealed, Refused, LinkCall, link_use, call, Comes, by_node, by_relay, IsIssued, IsRefused, malformed, bad_seal, bad_reseal, FailedAs, IsLinked, IsQuiet}
use Rattle.relay_core.specs.Credentials.{refused as says_refused}
use Rattle.relay_core.specs.Presenting.{IsOneInterrupted, OneComes, OneStops}
use Rattle.relay_core.specs.declared.presenting.Unpresented.TheVariants as whys
use Rattle.relay_core.proofs.Counting.{quiet_linked, none_called, linked_on, quiet_on}
use Rattle.taos_wire.specs.View.{text_of}
use Rattle.cred_pull.specs.declared.pulling.LeftOff.{LeftOff}
use Rattle.cred_pull.specs.declared.pulling.LeftOff.TheVariants as reasons
use Rattle.cred_pull.specs.declared.pulling.PullStop.TheVariants as halts
use Rattle.cred_pull.specs.declared.pulling.Pulled.{Pulled}
use Rattle.cred_pull.specs.declared.pulling.Pulled.TheVariants.{Ready, PullFailed, RelayFailed, NoMemory}
use Rattle.taos_wire.specs.Request.{Request}
use Rattle.cred_pull.specs.Fetching.{Texts, FetchSeen, Gave, Lacked, Failed, IsFetched}
use Rattle.cred_pull.specs.Pulled.{IsOpened, comes, refused, too_long, ArePulled, none_more, one_more, StopsAt, IsFailedAt, IsInterrupted, at_end, at_text, after_call}
use Rattle.cred_pull.specs.Pulling.{forms_of, within, IsLeftOff, AreLeftOff, HasPlace, stop_at, OneIsPulled, OneIsLeftOff, AllArePulled, AllAreLeftOff, Opener, Remains, TakesIn, Pulls, pull_use, ready, pull_failed, relay_failed, unfetched}
use Rattle.cred_pull.specs.Pulling.{interrupted as interrupted_by}

-- ---- who opens

pub remains : (a b c : Opener) → Remains a b → Remains b c → Remains a c
remains a b c first then = record { key = then.key ∙ first.key; node = then.node ∙ first.node; lent = then.lent ∙ first.lent }

-- what is lent for it, name by name
pub two_names : (a b p q : ℕ) (l m : Lent) → Both (To p Nothing) (To q m) ≡ Both (To a Nothing) (To b l) → (p ≡ a) × (q ≡ b) × (m ≡ l)
two_names a b p q l m same = (cc, cc, cc)

-- ---- one of them

abbrev NotFailed : LinkCall → Type 0
NotFailed c = c.answer ≢ credentials.Failed

-- a certificate that comes is within the limits
pub comes_within : (key text : List ℕ) (calls : List LinkCall) (c : Certificate) → Comes key text calls c → IsWithinLimits c
comes_within key text calls c (by_node opens) = opens.limits
comes_within key text calls c (by_relay is) = is.opens.limits

-- no call for one that is refused failed
refused_quiet : (key text : List ℕ) (node : ℕ) (before now : Link) (calls : List LinkCall) (code : ℕ) → IsRefused key text calls code → IsLinked node before now calls → IsQuiet node before now calls
refused_quiet key text node before now calls code (malformed unissued none) l =
    record { called = l.called; told = l.told; steady = l.failed; none = All-nil NotFailed }
refused_quiet key text node before now calls code (bad_seal c tag spells other) l =
    record { called = l.called; told = l.told; steady = l.failed; none = All-nil NotFailed }
refused_quiet key text node before now calls code (says_refused issued coded) l =
    record { called = l.called; told = l.told; steady = l.failed.2 ∙ l.failed.1; none = All-cons NotFailed _ [] (λ e. cc) (All-nil NotFailed) }
refused_quiet key text node before now calls code (bad_reseal issued none) l =
    record { called = l.called; told = l.told; steady = l.failed.2 ∙ l.failed.1; none = All-cons NotFailed _ [] (λ e. cc) (All-nil NotFailed) }

module _ (key text : List ℕ) (node : ℕ) (before now : Link) where
  pub pulls_none : (short : length text ≤ 2048) (code : ℕ) → OneStops key (link_use node before now) text (whys.Refused code) → OneIsPulled key (link_use node before now) text []
  pulls_none short code s = record {
    calls = s.calls;
    certs = [];
    opened = refused short s.stops;
    quiet = refused_quiet key text node before now s.calls code s.stops s.linked;
    forms_are = refl;
  }

  pub pulls_one : (short : length text ≤ 2048) (c : Certificate) (form : List ℕ) → OneComes key (link_use node before now) text c → form ≡ sealed 2 key c → OneIsPulled key (link_use node before now) text (form ∷ [])
  pulls_one short c form o is = record {
    calls = o.calls;
    certs = c ∷ [];
    opened = comes short o.comes;
    quiet = o.quiet;
    forms_are = ap (λ (l : List ℕ). l ∷ []) is;
  }

  pub left_failed : (short : length text ≤ 2048) → OneStops key (link_use node before now) text whys.LinkFailed → OneIsLeftOff (link_use node before now) text reasons.LinkFailed
  left_failed short s = record { calls = s.calls; stops = (short, s.stops.0, s.stops.1); linked = s.linked }

  pub left_lacking : OneStops key (link_use node before now) text whys.NoMemory → OneIsLeftOff (link_use node before now) text reasons.NoMemory
  left_lacking s = record { calls = s.calls; stops = s.stops; linked = s.linked }

  -- memory was refused for the form of one that came
  lacked_form : (calls : List LinkCall) (c : Certificate) → Comes key text calls c → IsOneInterrupted text calls
  lacked_form calls c (by_node opens) = inl refl
  lacked_form calls c (by_relay {new = new} is) = inr ((body_spelling c ++ is.tag, is.presented.text), (Resealed new, (λ e. cc), refl))

  pub left_unformed : (c : Certificate) → OneComes key (link_use node before now) text c → OneIsLeftOff (link_use node before now) text reasons.NoMemory
  left_unformed c o = record { calls = o.calls; stops = lacked_form o.calls c o.comes; linked = quiet_linked node before now o.calls o.quiet }

-- nothing is asked for one that is too long
pub pulls_long : (key text : List ℕ) (node : ℕ) (l : Link) → 2048 < length text → OneIsPulled key (link_use node l l) text []
pulls_long key text node l long = record { calls = []; certs = []; opened = too_long long; quiet = none_called node l; forms_are = refl }

-- ---- one after the other

pub pulled_on : (key : List ℕ) (texts : Texts) (calls : List LinkCall) (certs : List Certificate) (text : List ℕ) (more : List LinkCall) (own : List Certificate) →
    ArePulled key texts calls certs → IsOpened key text more own → ArePulled key (texts ++ text ∷ []) (calls ++ more) (certs ++ own)
pulled_on key texts calls certs text more own none_more opened =
    subst (λ (l : List LinkCall). ArePulled key (text ∷ []) l own) (append-nil more)
    (subst (λ (d : List Certificate). ArePulled key (text ∷ []) (more ++ []) d) (append-nil own) (one_more opened none_more))
pulled_on key texts calls certs text more own (one_more {text = first} {first = by} {calls = rest} {own = mine} {certs = ds} {texts = others} here behind) opened =
    subst (λ (l : List LinkCall). ArePulled key (first ∷ others ++ text ∷ []) l ((mine ++ ds) ++ own)) (sym (append_assoc by rest more))
    (subst (λ (d : List Certificate). ArePulled key (first ∷ others ++ text ∷ []) (by ++ (rest ++ more)) d) (sym (append_assoc mine ds own))
    (one_more here (pulled_on key others rest ds text more own behind opened)))

pub nothing_pulled : (key : List ℕ) (node : ℕ) (l : Link) → AllArePulled key (link_use node l l) [] []
nothing_pulled key node l = record { calls = []; certs = []; pulled = none_more; quiet = none_called node l; forms_are = refl }

module _ (key : List ℕ) (texts : List (Vec ℕ Global)) (place : ℕ) (d : Vec ℕ Global) (lt : place < length texts) where
  abbrev front : Texts
  front = map text_of (take place texts)

  abbrev here : List ℕ
  here = text_of (get_or texts place d)

  pub front_more : map text_of (take (place + 1) texts) ≡ front ++ here ∷ []
  front_more = map_more text_of texts place d lt

  stops_here : (before : List LinkCall) (certs : List Certificate) → ArePulled key front before certs → StopsAt key (map text_of texts) place here before
  stops_here before certs pulled = record {
    front = front;
    rest = map text_of (drop (place + 1) texts);
    whole = ap (map text_of) (sym (take-append-drop (place + 1) texts))
        ∙ map-append text_of (take (place + 1) texts) (drop (place + 1) texts)
        ∙ ap (λ (l : Texts). l ++ map text_of (drop (place + 1) texts)) front_more
        ∙ append_assoc front (here ∷ []) (map text_of (drop (place + 1) texts));
    there = length-map (take place texts) text_of ∙ length-take-le place texts (omega (arith, lt));
    certs = certs;
    pulled = pulled;
  }

  stopped : (before more : List LinkCall) (certs : List Certificate) (why : LeftOff) → ArePulled key front before certs → IsLeftOff here more why → AreLeftOff key (map text_of texts) (before ++ more) (stop_at place why)
  stopped before more certs reasons.LinkFailed pulled (short, issued, one) = record {
    text = here;
    before = before;
    stops = stops_here before certs pulled;
    short = short;
    issued = issued;
    calls_are = ap (λ (l : List LinkCall). before ++ l) one;
  }
  stopped before more certs reasons.NoMemory pulled (inl none) =
      at_text here (subst (λ (l : List LinkCall). StopsAt key (map text_of texts) place here l) (sym (ap (λ (l : List LinkCall). before ++ l) none ∙ append-nil before)) (stops_here before certs pulled))
  stopped before more certs reasons.NoMemory pulled (inr (issued, (answer, answered, one))) =
      after_call here before answer (stops_here before certs pulled) issued answered (ap (λ (l : List LinkCall). before ++ l) one)

  module _ (node : ℕ) (n middle now : Link) (forms : Texts) (came : AllArePulled key (link_use node n middle) front forms) where
    pub first_left : (why : LeftOff) → OneIsLeftOff (link_use node middle now) here why → AllAreLeftOff key (link_use node n now) (map text_of texts) (stop_at place why)
    first_left why s = record {
      calls = came.calls ++ s.calls;
      stops = stopped came.calls s.calls came.certs why came.pulled s.stops;
      linked = linked_on node n middle now came.calls s.calls came.quiet s.linked;
    }

    pub one_more_pulled : (own : Texts) → OneIsPulled key (link_use node middle now) here own → AllArePulled key (link_use node n now) (map text_of (take (place + 1) texts)) (forms ++ own)
    one_more_pulled own o = record {
      calls = came.calls ++ o.calls;
      certs = came.certs ++ o.certs;
      pulled = subst (λ (l : Texts). ArePulled key l (came.calls ++ o.calls) (came.certs ++ o.certs)) (sym front_more)
          (pulled_on key front came.calls came.certs here o.calls o.certs came.pulled o.opened);
      quiet = quiet_on node n middle now came.calls o.calls came.quiet o.quiet;
      forms_are = ap (λ (l : Texts). l ++ own) came.forms_are ∙ ap (λ (l : Texts). forms_of key came.certs ++ l) o.forms_are
          ∙ sym (map-append (sealed 2 key) came.certs o.certs);
    }

    -- memory was refused at this one, for which nothing was asked
    uncalled : IsInterrupted key (map text_of texts) (came.calls ++ [])
    uncalled = at_text here (subst (λ (l : List LinkCall). StopsAt key (map text_of texts) place here l) (sym (append-nil came.calls)) (stops_here came.calls came.certs came.pulled))

    -- memory was refused for the room of one that came
    unkept : (calls : List LinkCall) (c : Certificate) → Comes key here calls c → IsInterrupted key (map text_of texts) (came.calls ++ calls)
    unkept calls c (by_node opens) = uncalled
    unkept calls c (by_relay {new = new} is) =
        after_call here came.calls (Resealed new) (stops_here came.calls came.certs came.pulled) (body_spelling c ++ is.tag, is.presented.text) (λ e. cc) refl

    -- or of one that was refused
    unkept_refused : (calls : List LinkCall) (code : ℕ) → IsRefused key here calls code → IsInterrupted key (map text_of texts) (came.calls ++ calls)
    unkept_refused calls code (malformed unissued none) = uncalled
    unkept_refused calls code (bad_seal c tag spells other) = uncalled
    unkept_refused calls code (says_refused {code = said} issued coded) = after_call here came.calls (Refused said) (stops_here came.calls came.certs came.pulled) issued (λ e. cc) refl
    unkept_refused calls code (bad_reseal {new = new} issued none) = after_call here came.calls (Resealed new) (stops_here came.calls came.certs came.pulled) issued (λ e. cc) refl

    interrupted : (calls : List LinkCall) (own : List Certificate) → IsOpened key here calls own → IsInterrupted key (map text_of texts) (came.calls ++ calls)
    interrupted calls own (comes {c = c} short is) = unkept calls c is
    interrupted calls own (refused {code = code} short is) = unkept_refused calls code is
    interrupted calls own (too_long long) = uncalled

    pub unpushed : (own : Texts) → OneIsPulled key (link_use node middle now) here own → AllAreLeftOff key (link_use node n now) (map text_of texts) halts.NoMemory
    unpushed own o = record {
      calls = came.calls ++ o.calls;
      stops = interrupted o.calls o.certs o.opened;
      linked = linked_on node n middle now came.calls o.calls came.quiet (quiet_linked node middle now o.calls o.quiet);
    }

pub has_place : (texts : Texts) (place : ℕ) (why : LeftOff) → place < length texts → HasPlace texts (stop_at place why)
has_place texts place reasons.LinkFailed lt = lt
has_place texts place reasons.NoMemory lt = tt

-- ---- those that are looked at

-- of the program's texts as many as fit
pub looked_at : (presented fetched : List (Vec ℕ Global)) (most : ℕ) → most ≡ min (16 - length presented) (length fetched) → map text_of (take most fetched) ≡ within (map text_of presented) (map text_of fetched)
looked_at presented fetched most is =
    let room : 16 - length presented ≡ 16 - length (map text_of presented) = ap (λ (n : ℕ). 16 - n) (sym (length-map presented text_of)) in
    ap (map text_of) (ap (λ (k : ℕ). take k fetched) is ∙ take_min (16 - length presented) fetched)
    ∙ sym (take-map text_of (16 - length presented) fetched)
    ∙ ap (λ (k : ℕ). take k (map text_of fetched)) room

-- ---- into the request

module _ (key : List ℕ) (node : ℕ) (before now : Link) (fetched : Texts) (old new : Request) where
  pub taken : (texts forms : Texts) → texts ≡ within old.certs fetched → AllArePulled key (link_use node before now) texts forms → new ≡ record old { certs = old.certs ++ forms } → TakesIn key (link_use node before now) fetched old new Ready
  taken texts forms seen came is = record {
    calls = came.calls;
    ends = ready (subst (λ (l : Texts). ArePulled key l came.calls came.certs) seen came.pulled)
        (is ∙ ap (λ (l : Texts). record old { certs = old.certs ++ l }) came.forms_are);
    linked = quiet_linked node before now came.calls came.quiet;
  }

  -- memory was refused for the request's room
  pub unroomed : (texts forms : Texts) → texts ≡ within old.certs fetched → AllArePulled key (link_use node before now) texts forms → new ≡ old → TakesIn key (link_use node before now) fetched old new NoMemory
  unroomed texts forms seen came is = record {
    calls = came.calls;
    ends = interrupted_by (at_end (subst (λ (l : Texts). ArePulled key l came.calls came.certs) seen came.pulled)) is;
    linked = quiet_linked node before now came.calls came.quiet;
  }

  pub stopped_at : (texts : Texts) (place : ℕ) → texts ≡ within old.certs fetched → AllAreLeftOff key (link_use node before now) texts (halts.LinkFailed place) → new ≡ old → TakesIn key (link_use node before now) fetched old new (RelayFailed (length old.certs + place))
  stopped_at texts place seen s is = record {
    calls = s.calls;
    ends = relay_failed (subst (λ (l : Texts). IsFailedAt key l s.calls place) seen s.stops) is;
    linked = s.linked;
  }

  pub stopped_lacking : (texts : Texts) → texts ≡ within old.certs fetched → AllAreLeftOff key (link_use node before now) texts halts.NoMemory → new ≡ old → TakesIn key (link_use node before now) fetched old new NoMemory
  stopped_lacking texts seen s is = record {
    calls = s.calls;
    ends = interrupted_by (subst (λ (l : Texts). IsInterrupted key l s.calls) seen s.stops) is;
    linked = s.linked;
  }

-- ---- the fetch before it

module _ (key : List ℕ) (node : ℕ) (f g : FetchSeen) (before now : Link) (old new : Request) where
  pub pulls_given : (certs : Texts) (result : Pulled) → IsFetched f g (Gave certs) → TakesIn key (link_use node before now) certs old new result → Pulls key (pull_use f g (link_use node before now)) old new result
  pulls_given certs result fetched took = record { pull = Gave certs; calls = took.calls; fetched = fetched; linked = took.linked; ends = took.ends }

pub pulls_failed : (key : List ℕ) (node : ℕ) (f g : FetchSeen) (l : Link) (r : Request) → IsFetched f g Failed → Pulls key (pull_use f g (link_use node l l)) r r PullFailed
pulls_failed key node f g l r fetched = record { pull = Failed; calls = []; fetched = fetched; linked = quiet_linked node l l [] (none_called node l); ends = pull_failed refl }

pub pulls_lacking : (key : List ℕ) (node : ℕ) (f g : FetchSeen) (l : Link) (r : Request) → IsFetched f g Lacked → Pulls key (pull_use f g (link_use node l l)) r r NoMemory
pulls_lacking key node f g l r fetched = record { pull = Lacked; calls = []; fetched = fetched; linked = quiet_linked node l l [] (none_called node l); ends = unfetched refl }
