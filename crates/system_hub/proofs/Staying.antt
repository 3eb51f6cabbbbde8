-- What becomes of a hub by what is done with one client.
use Rattle.std.proofs.Common.{◌≡◌, ◌↔◌, ◌++◌, ◌∙◌, Bool, true, false, IsTrue, if◌then◌else◌, List, [], ◌∷◌, ℕ, length, refl, sym, subst}
use Rattle.system_hub.specs.Events.{Event}
use Rattle.system_hub.specs.Kept.{Kept, IsHere}
use Rattle.system_hub.specs.Calls.{Follows}
use Rattle.system_hub.specs.Seating.{HasLeft, LeavesOthers, LeavesAll, Keeps}
use Rattle.system_hub.proofs.Seating.{others_then, others_none}
use Rattle.system_hub.specs.Floors.{HasHistory, IsDoneSoFar, IsDoneWith, IsMoved}
use Rattle.system_hub.specs.declared.client.Moved.{Moved}
use Rattle.system_hub.specs.declared.client.Moved.TheVariants.{More, Enough, Left}

pub history_goes_on : (old new : Kept) (since : List Event) → Follows old new since → HasHistory old → HasHistory new
history_goes_on old new since follows h = (h.0 ++ since, follows.history h.0 h.1)

pub none_so_far : (number : ℕ) (hub : Kept) → IsDoneSoFar number hub hub
none_so_far number hub = record { history = λ h. h; size = refl; others = others_none number hub }

pub far_then : (number : ℕ) (old mid new : Kept) → IsDoneSoFar number old mid → IsDoneSoFar number mid new → IsDoneSoFar number old new
far_then number old mid new one two = record {
  history = λ h. two.history (one.history h);
  size = two.size ∙ one.size;
  others = others_then number old mid new one.others two.others;
}

-- nothing more was done
pub here_done : (number : ℕ) (old new : Kept) (b : Bool) → IsDoneSoFar number old new → (IsTrue b ↔ IsHere new number) → IsDoneWith number old new b
here_done number old new true done is = record { done = done; seat = is.0 refl }
here_done number old new false done is = record { done = done; seat = λ here. absurd (cc (is.1 here)) }

pub kept_done : (number : ℕ) (since : List Event) (old new : Kept) (b : Bool) → Keeps number since old new b → LeavesOthers number old new → IsDoneWith number old new b
kept_done number since old new true keeps others = record {
  done = record { history = history_goes_on old new since keeps.0; size = keeps.0.size.seats; others = others };
  seat = keeps.1;
}
kept_done number since old new false keeps others = record {
  done = record { history = history_goes_on old new _ keeps.0; size = keeps.0.size.seats; others = others };
  seat = keeps.1;
}

pub left_done : (number : ℕ) (since : List Event) (old new : Kept) → Follows old new since → HasLeft number new → LeavesOthers number old new → IsDoneWith number old new false
left_done number since old new follows left others = record {
  done = record { history = history_goes_on old new since follows; size = follows.size.seats; others = others };
  seat = left;
}

pub done_then : (number : ℕ) (old mid new : Kept) (b : Bool) → IsDoneSoFar number old mid → IsDoneWith number mid new b → IsDoneWith number old new b
done_then number old mid new b one two = record { done = far_then number old mid new one two.done; seat = two.seat }

pub moved_some : (number : ℕ) (old new : Kept) (b : Bool) (m : Moved) → m ≡ (if b then More else Left) → IsDoneWith number old new b → IsMoved number old new m
moved_some number old new true m is done = subst (λ (x : Moved). IsMoved number old new x) (sym is) done
moved_some number old new false m is done = subst (λ (x : Moved). IsMoved number old new x) (sym is) done

pub moved_none : (number : ℕ) (old new : Kept) (b : Bool) (m : Moved) → m ≡ (if b then Enough else Left) → IsDoneWith number old new b → IsMoved number old new m
moved_none number old new true m is done = subst (λ (x : Moved). IsMoved number old new x) (sym is) done
moved_none number old new false m is done = subst (λ (x : Moved). IsMoved number old new x) (sym is) done
