-- A run keeps the rule.
use Rattle.std.proofs.Common.{List, [], ◌∷◌, sym, subst}
use Rattle.tree_words.specs.Settings.{Setting}
use Rattle.arena_rule.specs.Rule.{Rule}
use Rattle.arena_rule.specs.Runs.{Arena, Event, acts, splits, joins, Happens, LeadTo}
use Rattle.arena_rule.proofs.Law as law

Keeps : Setting → Arena → Type 0
Keeps s a = Rule s a.words a.views

pub event-keeps : (s : Setting) (e : Event) (a b : Arena) → Rule s a.words a.views → Happens e a b
    → Rule s b.words b.views
unfolding Keeps
event-keeps s (acts id op) a b r h
    = subst (Keeps s) (sym h.is)
    (law.steps s a.words a.views r id h.view h.seat.at h.seat.live op h.fits)
event-keeps s (splits id part) a b r h
    = subst (Keeps s) (sym h.is)
    (law.splits s a.words a.views r id h.view h.seat.at h.seat.live part h.can)
event-keeps s (joins id other) a b r h =
    subst (Keeps s) (sym h.is)
    (law.joins s a.words a.views r id h.view h.seat.at h.seat.live other h.others h.joined.at h.differ h.joined.live h.can)

pub run-keeps : (s : Setting) (events : List Event) (a last : Arena) → Rule s a.words a.views
    → LeadTo events a last → Rule s last.words last.views
unfolding Keeps
run-keeps s [] a last r l = subst (Keeps s) (sym l) r
run-keeps s (e ∷ events) a last r l = run-keeps s events l.0 last (event-keeps s e a l.0 r l.1) l.2
