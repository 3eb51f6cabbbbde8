-- Certificates that come one by one, by the node or by the relay, and what the first that comes to none is.
use Rattle.std.proofs.Common.{◌≡◌, ℕ, ◌+◌, ◌<◌, List, [], ◌∷◌, ◌++◌, length, take, drop, map, Result, Ok, Err, refl, sym, ap, subst, subst₂, ◌∙◌, append_assoc, append-nil, inl, inr, arith, get_or}
use Rattle.std.specs.Prelude.{OnErr, Vec}
use Rattle.std.specs.declared.alloc.Global.{Global}
use Rattle.std.specs.declared.sync.Arc.{Arc}
use Rattle.std.proofs.lemmas.List.{length-map, length-take-le, map-append, map_push, take-append-drop, take_more}
use Rattle.stmt_codec.specs.declared.cert.Cert.{Cert}
use Rattle.stmt_codec.specs.Certificates.{Certificate, body_spelling}
use Rattle.frame_link.specs.Relay.{Link}
use Rattle.taos_wire.specs.View.{text_of, cited as shared}
use Rattle.taos_monitor.specs.declared.refusal.Refusal.TheVariants as refusals
use Rattle.request_course.specs.Credentials.{Resealed, Refused, LinkCall, link_use, call, Comes, by_node, by_relay, AreOpened, none_more, one_more, StopsAt, at_text, after_call, IsQuiet}
use Rattle.relay_core.specs.declared.presenting.Unpresented.{Unpresented}
use Rattle.relay_core.specs.declared.presenting.Unpresented.TheVariants as reasons
use Rattle.relay_core.specs.Presenting.{IsOneStopped, OneComes, OneStops}
pub use Rattle.relay_core.proofs.Counting.{quiet_linked, none_called, linked_both, linked_on, quiet_on}
pub use Rattle.relay_core.proofs.Coming.{on_ok}
use Rattle.taos_monitor.specs.Presenting.{refused_at, AreStopped, AllCome, AllStop}

-- ---- one after the other

pub opened_on : (key : List ℕ) (texts : List (List ℕ)) (calls : List LinkCall) (certs : List Certificate) (text : List ℕ) (more : List LinkCall) (c : Certificate) →
    AreOpened key texts calls certs → Comes key text more c → AreOpened key (texts ++ text ∷ []) (calls ++ more) (certs ++ c ∷ [])
opened_on key texts calls certs text more c none_more comes =
    subst (λ (l : List LinkCall). AreOpened key (text ∷ []) l (c ∷ [])) (append-nil more) (one_more comes none_more)
opened_on key texts calls certs text more c (one_more {text = first} {first = by} {calls = rest} {c = d} {texts = others} {certs = ds} here behind) comes =
    subst (λ (l : List LinkCall). AreOpened key (first ∷ others ++ text ∷ []) l (d ∷ ds ++ c ∷ [])) (sym (append_assoc by rest more))
    (one_more here (opened_on key others rest ds text more c behind comes))

module _ (key : List ℕ) (texts : List (Vec ℕ Global)) (place : ℕ) (d : Vec ℕ Global) (lt : place < length texts) where
  abbrev front : List (List ℕ)
  front = map text_of (take place texts)

  abbrev here : List ℕ
  here = text_of (get_or texts place d)

  pub front_more : map text_of (take (place + 1) texts) ≡ front ++ here ∷ []
  front_more = ap (map text_of) (take_more texts place d lt) ∙ map_push text_of (take place texts) (get_or texts place d)

  stops_here : (before : List LinkCall) (certs : List Certificate) → AreOpened key front before certs → StopsAt key (map text_of texts) place here before
  stops_here before certs opened = record {
    front = front;
    rest = map text_of (drop (place + 1) texts);
    whole = ap (map text_of) (sym (take-append-drop (place + 1) texts))
        ∙ map-append text_of (take (place + 1) texts) (drop (place + 1) texts)
        ∙ ap (λ (l : List (List ℕ)). l ++ map text_of (drop (place + 1) texts)) front_more
        ∙ append_assoc front (here ∷ []) (map text_of (drop (place + 1) texts));
    place = length-map (take place texts) text_of ∙ length-take-le place texts (omega (arith, lt));
    certs = certs;
    opened = opened;
  }

  stopped : (before more : List LinkCall) (certs : List Certificate) (why : Unpresented) → AreOpened key front before certs → IsOneStopped key here more why → AreStopped key (map text_of texts) (before ++ more) (refused_at place why)
  stopped before more certs (reasons.Refused code) opened why = record {
    text = here;
    before = before;
    last = more;
    stops = stops_here before certs opened;
    refused = why;
    calls_are = refl;
  }
  stopped before more certs reasons.LinkFailed opened (issued, one) = record {
    text = here;
    before = before;
    stops = stops_here before certs opened;
    issued = issued;
    calls_are = ap (λ (l : List LinkCall). before ++ l) one;
  }
  stopped before more certs reasons.NoMemory opened (inl none) =
      at_text here (subst (λ (l : List LinkCall). StopsAt key (map text_of texts) place here l) (sym (ap (λ (l : List LinkCall). before ++ l) none ∙ append-nil before)) (stops_here before certs opened))
  stopped before more certs reasons.NoMemory opened (inr (issued, (answer, answered, one))) =
      after_call here before answer (stops_here before certs opened) issued answered (ap (λ (l : List LinkCall). before ++ l) one)

  first_stopped : (node : ℕ) (n middle now : Link) (certs : List Certificate) (why : Unpresented) → AllCome key (link_use node n middle) front certs →
      OneStops key (link_use node middle now) here why → AllStop key (link_use node n now) (map text_of texts) (refused_at place why)
  first_stopped node n middle now certs why came stops = record {
    calls = came.calls ++ stops.calls;
    stops = stopped came.calls stops.calls certs why came.opened stops.stops;
    linked = linked_on node n middle now came.calls stops.calls came.quiet stops.linked;
  }

  one_more_comes : (node : ℕ) (n middle now : Link) (certs : List (Arc Cert Global)) (c : Arc Cert Global) → AllCome key (link_use node n middle) front (map shared certs) →
      OneComes key (link_use node middle now) here (shared c) → AllCome key (link_use node n now) (map text_of (take (place + 1) texts)) (map shared (certs ++ c ∷ []))
  one_more_comes node n middle now certs c came comes = record {
    calls = came.calls ++ comes.calls;
    opened = subst (λ (l : List (List ℕ)). AreOpened key l (came.calls ++ comes.calls) (map shared (certs ++ c ∷ []))) (sym front_more)
        (subst (AreOpened key (front ++ here ∷ []) (came.calls ++ comes.calls)) (sym (map_push shared certs c))
        (opened_on key front came.calls (map shared certs) here comes.calls (shared c) came.opened comes.comes));
    quiet = quiet_on node n middle now came.calls comes.calls came.quiet comes.quiet;
  }

-- memory was refused for one that came
interrupted : (key : List ℕ) (node : ℕ) (n middle now : Link) (index : ℕ) (texts : List (List ℕ)) (text : List ℕ) (before more : List LinkCall) (c : Certificate) →
    StopsAt key texts index text before → IsQuiet node n middle before → Comes key text more c → IsQuiet node middle now more → AllStop key (link_use node n now) texts refusals.NoMemory
interrupted key node n middle now index texts text before more c stops quiet (by_node opens) more_quiet = record {
  calls = before ++ [];
  stops = at_text text (subst (λ (l : List LinkCall). StopsAt key texts index text l) (sym (append-nil before)) stops);
  linked = linked_on node n middle now before [] quiet (quiet_linked node middle now [] more_quiet);
}
interrupted key node n middle now index texts text before more c stops quiet (by_relay {new = new} is) more_quiet = record {
  calls = before ++ call text (Resealed new) ∷ [];
  stops = after_call text before (Resealed new) stops (body_spelling c ++ is.tag, is.presented.text) (λ e. cc) refl;
  linked = linked_on node n middle now before (call text (Resealed new) ∷ []) quiet (quiet_linked node middle now (call text (Resealed new) ∷ []) more_quiet);
}

-- the same of the text at a place, by what is promised of the one that was read there, under the key as it stayed
module _ (key : List ℕ) (texts : List (Vec ℕ Global)) (place : ℕ) (d : Vec ℕ Global) (lt : place < length texts) (node : ℕ) (n middle now : Link)
    {opened text : List ℕ} (stayed : opened ≡ key) (read : text ≡ text_of (get_or texts place d)) where
  came_here : (c : Certificate) → OneComes opened (link_use node middle now) text c → OneComes key (link_use node middle now) (text_of (get_or texts place d)) c
  came_here c one = subst₂ (λ (k : List ℕ) (t : List ℕ). OneComes k (link_use node middle now) t c) stayed read one

  pub stopped_here : (certs : List Certificate) (why : Unpresented) → AllCome key (link_use node n middle) (map text_of (take place texts)) certs →
      OneStops opened (link_use node middle now) text why → AllStop key (link_use node n now) (map text_of texts) (refused_at place why)
  stopped_here certs why came stops =
      first_stopped key texts place d lt node n middle now certs why came (subst₂ (λ (k : List ℕ) (t : List ℕ). OneStops k (link_use node middle now) t why) stayed read stops)

  pub interrupted_here : (certs : List Certificate) (c : Certificate) → AllCome key (link_use node n middle) (map text_of (take place texts)) certs →
      OneComes opened (link_use node middle now) text c → AllStop key (link_use node n now) (map text_of texts) refusals.NoMemory
  interrupted_here certs c came comes =
      let one = came_here c comes in
      interrupted key node n middle now place (map text_of texts) (text_of (get_or texts place d)) came.calls one.calls c
      (stops_here key texts place d lt came.calls certs came.opened) came.quiet one.comes one.quiet

  pub comes_here : (certs : List (Arc Cert Global)) (c : Arc Cert Global) → AllCome key (link_use node n middle) (map text_of (take place texts)) (map shared certs) →
      OneComes opened (link_use node middle now) text (shared c) → AllCome key (link_use node n now) (map text_of (take (place + 1) texts)) (map shared (certs ++ c ∷ []))
  comes_here certs c came comes = one_more_comes key texts place d lt node n middle now certs c came (came_here (shared c) comes)

pub err_on : {A E P Q : Type 0} (r : Result A E) → (P → Q) → OnErr r P → OnErr r Q
err_on (Ok a) f h = h
err_on (Err e) f h = f h
