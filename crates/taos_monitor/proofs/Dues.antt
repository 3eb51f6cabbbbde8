-- What is due of an operation that was granted.
use Rattle.std.proofs.Common.{◌≡◌, ℕ, ◌+◌, ◌<◌, ◌≤◌, ◌^◌, List, [], ◌∷◌, length, All, Some, slice_get, refl, sym, ap, subst, ◌∙◌, arith}
use Rattle.std.specs.List.{range_with_len}
use Rattle.std.specs.Option.{option_map}
use Rattle.object_core.specs.declared.operation.Op as code
use Rattle.object_core.specs.declared.operation.Op.TheVariants as variant
use Rattle.object_core.specs.Operation.{Op, Read, Write, SetList, Hold, Discard, Forget, Sweep, Withdraw}
use Rattle.object_core.specs.View.{operation}
use Rattle.stmt_codec.specs.Certificates.{Certificate}
use Rattle.agent_core.specs.Answers.{FitsEvent}
use Rattle.agent_core.specs.State.{Plan, Event, Holds, Discards, Forgets, Expires, Withdraws}
use Rattle.agent_core.specs.Views.{event_of}
use Rattle.agent_core.specs.declared.event.Event.{Event as EventValue}
use Rattle.taos_monitor.specs.declared.due.Due.{Due}
use Rattle.request_course.specs.Operations.{IsEffect, effect_of, targets_of}
use Rattle.taos_monitor.specs.Performing.{IsReady, IsDueOf}

-- the effect of an operation is one, and fits
fits_effect : (op : Op) (certs : List Certificate) (reading : ℕ) (e : Event) → effect_of op certs reading ≡ Some e → length certs ≤ 16 → IsEffect e × FitsEvent e
fits_effect Hold certs reading e is few = let same : Holds certs ≡ e = cc in subst (λ x. IsEffect x × FitsEvent x) same (tt, few)
fits_effect (Discard digest) certs reading e is few = let same : Discards digest ≡ e = cc in subst (λ x. IsEffect x × FitsEvent x) same (tt, tt)
fits_effect (Forget channel) certs reading e is few = let same : Forgets channel ≡ e = cc in subst (λ x. IsEffect x × FitsEvent x) same (tt, tt)
fits_effect Sweep certs reading e is few = let same : Expires reading ≡ e = cc in subst (λ x. IsEffect x × FitsEvent x) same (tt, tt)
fits_effect (Withdraw issuer) certs reading e is few = let same : Withdraws issuer ≡ e = cc in subst (λ x. IsEffect x × FitsEvent x) same (tt, tt)
fits_effect _ certs reading e is few = absurd cc

first_of : (events : List EventValue) (e : Event) → 0 < length events → All (λ (x : EventValue). event_of x ≡ e) events → option_map event_of (slice_get events 0) ≡ Some e
first_of [] e some same = absurd (omega (arith, some))
first_of (x ∷ events) e some same = ap Some (same 0 x some)

module _ (plans : List Plan) (due : Due) (op : Op) (certs : List Certificate) (reading : ℕ) (e : Event) (is : effect_of op certs reading ≡ Some e) (some : 0 < length due.events.items)
    (same : All (λ (x : EventValue). event_of x ≡ e) due.events.items) where
  pub ready_of : length certs ≤ 16 → due.first + length due.events.items ≤ length plans → due.first + length due.events.items < 2 ^ 32 → IsReady plans due
  ready_of few within small =
      let fits = fits_effect op certs reading e is few in
      record {
        within = within;
        small = small;
        each = λ k d lt. record {
          same = first_of due.events.items e some same ∙ ap Some (sym (same k d lt));
          is_effect = subst IsEffect (sym (same k d lt)) fits.0;
          fits = subst FitsEvent (sym (same k d lt)) fits.1;
        };
      }

  pub due_of : range_with_len due.first (length due.events.items) ≡ targets_of plans op → IsDueOf plans op certs reading due
  due_of targets = record { effect_is = first_of due.events.items e some same ∙ sym is; shards_are = targets }

-- all shards are stepped by an operation that has an effect, unless it is a Forget
pub all_targets : (plans : List Plan) (op : code.Op) (certs : List Certificate) (reading : ℕ) (e : Event) → effect_of (operation op) certs reading ≡ Some e → ((channel : ℕ) → op ≡ variant.Forget channel → ⊥) →
    range_with_len 0 (length plans) ≡ targets_of plans (operation op)
all_targets plans variant.Read certs reading e is other = absurd cc
all_targets plans (variant.Write content) certs reading e is other = absurd cc
all_targets plans (variant.SetList list) certs reading e is other = absurd cc
all_targets plans (variant.Forget channel) certs reading e is other = absurd (other channel refl)
all_targets plans _ certs reading e is other = refl
