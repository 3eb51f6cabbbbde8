-- A task as its command and what that is asked for, so that what holds of all tasks is shown once for each command.
use Rattle.std.proofs.Common.{◌≡◌, Option, None, Some, refl, sym, ap, subst, ◌∙◌, codes}
use Rattle.node_commands.specs.declared.words.wanted.Wanted.{Wanted}
use Rattle.node_commands.specs.Table.{IsReadAs}
use Rattle.std.specs.Prelude.{cond}
use Rattle.std.specs.Str.{bytes_eq}
use Rattle.node_commands.specs.Words.{Asked, Command, Gives, Running, Checking, Relaying, Minting, Serving, RelayServing, Auditing, Drilling, Carrying, Giving, Text, Task, Run, Check, Relay, Mint, Serve, RelayServe, Audit, Drill, Path, Wallet, named, task_for, task_of, AuditingBytes, Replaying, AuditBytes, Replay}

-- the command that is named so
abbrev pub command_named : Text → Command
command_named name =
    cond (bytes_eq name (codes "run")) Running
    (cond (bytes_eq name (codes "check")) Checking
    (cond (bytes_eq name (codes "relay")) Relaying
    (cond (bytes_eq name (codes "mint")) Minting
    (cond (bytes_eq name (codes "serve")) Serving
    (cond (bytes_eq name (codes "relay-serve")) RelayServing
    (cond (bytes_eq name (codes "audit")) Auditing
    (cond (bytes_eq name (codes "path")) Carrying
    (cond (bytes_eq name (codes "wallet")) Giving
    (cond (bytes_eq name (codes "audit-bytes")) AuditingBytes
    (cond (bytes_eq name (codes "replay")) Replaying Drilling))))))))))

pub command_named-named : (c : Command) → command_named (named c) ≡ c
command_named-named Running = refl
command_named-named Checking = refl
command_named-named Relaying = refl
command_named-named Minting = refl
command_named-named Serving = refl
command_named-named RelayServing = refl
command_named-named Auditing = refl
command_named-named Drilling = refl
command_named-named Carrying = refl
command_named-named Giving = refl
command_named-named AuditingBytes = refl
command_named-named Replaying = refl

-- what is read of a command is read of each that has its name
by_command : (d : Command) (name : Text) (text_of : Text → Option Text) (r : Option Wanted) → name ≡ named d → IsReadAs d text_of r → (c : Command) → name ≡ named c → IsReadAs c text_of r
by_command d name text_of r is read c other =
    let same : d ≡ c = sym (command_named-named d) ∙ ap command_named (sym is ∙ other) ∙ command_named-named c in
    subst (λ (k : Command). IsReadAs k text_of r) same read

-- what this command is asked for is read where it is given
pub read_of : (d : Command) {name : Text} → name ≡ named d → (text_of : Text → Option Text) (wanted : Wanted) (asked : Asked d) → task_of wanted ≡ task_for d asked → Gives d text_of asked →
    (c : Command) → name ≡ named c → IsReadAs c text_of (Some wanted)
read_of d {name = name} is text_of wanted asked same given = by_command d name text_of (Some wanted) is (asked, same, given)

-- and nothing is where nothing is given
pub unread_of : (d : Command) {name : Text} → name ≡ named d → (text_of : Text → Option Text) {r : Option Wanted} → r ≡ None → IsReadAs d text_of None →
    (c : Command) → name ≡ named c → IsReadAs c text_of r
unread_of d {name = name} is text_of {r = r} none nothing = by_command d name text_of r is (subst (IsReadAs d text_of) (sym none) nothing)

-- ---- tasks

abbrev pub command_of : Task → Command
command_of (Run n) = Running
command_of Check = Checking
command_of (Relay n) = Relaying
command_of (Mint m) = Minting
command_of (Serve limits) = Serving
command_of (RelayServe limits) = RelayServing
command_of (Audit n) = Auditing
command_of (Drill d) = Drilling
command_of (Path p) = Carrying
command_of (Wallet n) = Giving
command_of (AuditBytes n) = AuditingBytes
command_of Replay = Replaying

-- each task is one of its command
pub asked_of : (t : Task) → (x : Asked (command_of t)) × (task_for (command_of t) x ≡ t)
asked_of (Run n) = (n, refl)
asked_of Check = (tt, refl)
asked_of (Relay n) = (n, refl)
asked_of (Mint m) = (m, refl)
asked_of (Serve limits) = (limits, refl)
asked_of (RelayServe limits) = (limits, refl)
asked_of (Audit n) = (n, refl)
asked_of (Drill d) = (d, refl)
asked_of (Path p) = (p, refl)
asked_of (Wallet n) = (n, refl)
asked_of (AuditBytes n) = (n, refl)
asked_of Replay = (tt, refl)
