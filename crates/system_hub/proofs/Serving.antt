-- What a client may count on, as its account grows.
use Rattle.std.proofs.Common.{◌≡◌, ◌≤◌, ◌++◌, ◌∙◌, ℕ, List, [], ◌∷◌, length, All, sym, ap, refl, append_assoc, arith}
use Rattle.std.proofs.lemmas.List.{append-nil}
use Rattle.std.proofs.lemmas.List.Concat.{flat_map-append}
use Rattle.std.proofs.lemmas.List.Elements.{All-nil, All-push}
use Rattle.frame_link.specs.Frames.{frame, framed}
use Rattle.frame_link.specs.declared.service.TheConstants.{MAX_PAYLOAD}
use Rattle.system_hub.specs.Accounts.{Account, nothing, lane_by}
use Rattle.system_hub.specs.Fair.{Waits}
use Rattle.system_hub.specs.Lawful.{IsServed}

pub framed_more : (payloads : List (List ℕ)) (payload : List ℕ) → framed (payloads ++ payload ∷ []) ≡ framed payloads ++ frame payload
framed_more payloads payload =
    flat_map-append frame payloads (payload ∷ [])
    ∙ ap (λ (x : List ℕ). framed payloads ++ x) (append-nil (frame payload))

pub served_nothing : (place lanes : ℕ) → IsServed place lanes nothing
served_nothing place lanes = record {
  taken = ([], refl);
  short = All-nil (λ (p : List ℕ). length p ≤ MAX_PAYLOAD);
  one_lane = All-nil (λ (lane : ℕ). lane ≡ 0);
  written = ([], refl);
}

pub served_received : (place lanes : ℕ) (a : Account) (bytes : List ℕ) → IsServed place lanes a →
    IsServed place lanes (record a { received = a.received ++ bytes })
served_received place lanes a bytes h = record {
  taken = (h.taken.0 ++ bytes, ap (λ (x : List ℕ). x ++ bytes) h.taken.1 ∙ append_assoc (framed a.taken) h.taken.0 bytes);
  short = h.short;
  one_lane = h.one_lane;
  written = h.written;
}

pub served_wrote : (place lanes : ℕ) (a : Account) (bytes rest : List ℕ) → framed a.replies ≡ a.written ++ (bytes ++ rest) →
    IsServed place lanes a → IsServed place lanes (record a { written = a.written ++ bytes })
served_wrote place lanes a bytes rest left h = record {
  taken = h.taken;
  short = h.short;
  one_lane = h.one_lane;
  written = (rest, left ∙ sym (append_assoc a.written bytes rest));
}

pub served_answered : (place lanes : ℕ) (a : Account) (payload : List ℕ) → IsServed place lanes a →
    IsServed place lanes (record a { replies = a.replies ++ payload ∷ [] })
served_answered place lanes a payload h = record {
  taken = h.taken;
  short = h.short;
  one_lane = h.one_lane;
  written = (
    h.written.0 ++ frame payload,
    framed_more a.replies payload
        ∙ ap (λ (x : List ℕ). x ++ frame payload) h.written.1
        ∙ append_assoc a.written h.written.0 (frame payload),
  );
}

pub served_opened : (place lanes : ℕ) (a : Account) (n : ℕ) → IsServed place lanes a → IsServed place lanes (record a { comings = n })
served_opened place lanes a n h = record { taken = h.taken; short = h.short; one_lane = h.one_lane; written = h.written }

pub served_ended : (place lanes : ℕ) (a : Account) (n : ℕ) → IsServed place lanes a → IsServed place lanes (record a { ends = n })
served_ended place lanes a n h = record { taken = h.taken; short = h.short; one_lane = h.one_lane; written = h.written }

pub served_failed : (place lanes : ℕ) (a : Account) (n : ℕ) → IsServed place lanes a → IsServed place lanes (record a { failures = n })
served_failed place lanes a n h = record { taken = h.taken; short = h.short; one_lane = h.one_lane; written = h.written }

pub served_closed : (place lanes : ℕ) (a : Account) (n : ℕ) → IsServed place lanes a → IsServed place lanes (record a { leavings = n })
served_closed place lanes a n h = record { taken = h.taken; short = h.short; one_lane = h.one_lane; written = h.written }

-- a further frame goes to the lane of the first
lane_more : (place lanes : ℕ) (taken : List (List ℕ)) (next : List ℕ) (by : List ℕ) → length by ≡ length taken →
    All (λ lane. lane ≡ lane_by place lanes taken) by → All (λ lane. lane ≡ lane_by place lanes (taken ++ next ∷ [])) by
lane_more place lanes [] next by len all = λ k d lt. absurd (omega arith)
lane_more place lanes (first ∷ taken) next by len all = all

pub served_took : (place lanes lane : ℕ) (a : Account) (w : Waits place lanes lane a) → length a.lanes ≡ length a.taken →
    IsServed place lanes a →
    IsServed place lanes (record a { taken = a.taken ++ w.next ∷ []; lanes = a.lanes ++ lane ∷ [] })
served_took place lanes lane a w len h = record {
  taken = (w.rest, w.whole);
  short = All-push (λ (p : List ℕ). length p ≤ MAX_PAYLOAD) a.taken w.next h.short w.short;
  one_lane = All-push (λ (k : ℕ). k ≡ lane_by place lanes (a.taken ++ w.next ∷ [])) a.lanes lane
      (lane_more place lanes a.taken w.next a.lanes len h.one_lane) (sym w.its_lane);
  written = h.written;
}
