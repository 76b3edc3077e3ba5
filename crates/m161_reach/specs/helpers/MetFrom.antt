use Rattle.std.proofs.Common.{◌≡◌, ◌∙◌, refl, ap, sym, ℕ, List, [], ◌∷◌, Option, None, Some}
use Rattle.std.specs.Prelude.{if◌then◌else◌, unwrap_or}
use Rattle.m161_states.specs.Question.{Question}
use Rattle.m161_states.specs.System.{Explored, next, start}
use Rattle.m161_states.specs.Verdicts.{is_end}
use Rattle.m161_reach.specs.From.{at_end, rules_from}
use Rattle.m161_reach.specs.Met as met
use Rattle.m161_reach.specs.Reach.{IsMet, rules_of}
use Rattle.m161_reach.specs.helpers.Advance.{unmade}
use Rattle.m161_reach.specs.helpers.Onward.{Origin, behind_all, origin_of}

-- The same laws, of an exploration from any state that is met.

pub unmade_met : (q : Question) (u : Explored) → IsMet q u → IsMet q (unmade u)
unmade_met q u h = record {
  valid = record {
    shape = record {
      processors = h.valid.shape.processors;
      size_is = h.valid.shape.size_is;
      places = h.valid.shape.places;
      crams = h.valid.shape.crams;
      other_places = h.valid.shape.other_places;
      links = h.valid.shape.links;
      other_links = h.valid.shape.other_links;
      whole = h.valid.shape.whole;
      bytes = h.valid.shape.bytes;
    };
    one = record {
      conf = h.valid.one.conf;
      ram = h.valid.one.ram;
      processors = h.valid.one.processors;
      unit = h.valid.one.unit;
      memory = h.valid.one.memory;
    };
  };
  kept = h.kept;
}

pub next_met : (q : Question) (x u : Explored) (n : ℕ) → IsMet q x → next q x n ≡ Some u → IsMet q u
unfolding rules_of
next_met q x u n h is = met.met_next q x u n h is

one_met : (q : Question) (x : Explored) (n : ℕ) (found : Option Explored) → IsMet q x → next q x n ≡ found → IsMet q (unwrap_or found x)
one_met q x n None h is = h
one_met q x n (Some u) h is = next_met q x u n h is

pub behind_met : (q : Question) (x : Explored) (events : List ℕ) → IsMet q x → IsMet q (behind_all q x events)
behind_met q x [] h = h
behind_met q x (n ∷ ns) h = behind_met q (unwrap_or (next q x n) x) ns (one_met q x n (next q x n) h refl)

pub start_met : (q : Question) → IsMet q (start q)
unfolding rules_of
start_met q = met.met_start q

pub origin_met : (q : Question) (events : List ℕ) → IsMet q (origin_of q events)
origin_met q events = unmade_met q (behind_all q (start q) events) (behind_met q (start q) events (start_met q))

pub met_start : (m : Origin) → IsMet m.question (rules_from m.question (origin_of m.question m.events)).start
unfolding rules_from
met_start m = origin_met m.question m.events

pub met_next : (m : Origin) (x u : Explored) (n : ℕ) → IsMet m.question x → (rules_from m.question (origin_of m.question m.events)).next x n ≡ Some u →
    IsMet m.question u
unfolding rules_from
met_next m x u n h is = next_met m.question x u n h is

pub alike_stop : (m : Origin) (x y : Explored) (n : ℕ) → IsMet m.question x → IsMet m.question y →
    (rules_from m.question (origin_of m.question m.events)).view x ≡ (rules_from m.question (origin_of m.question m.events)).view y →
    (rules_from m.question (origin_of m.question m.events)).stop x n ≡ (rules_from m.question (origin_of m.question m.events)).stop y n
unfolding rules_from rules_of
alike_stop m x y n h g is = met.alike_stop m.question x y n h g is

pub alike_next : (m : Origin) (x y u : Explored) (n : ℕ) → IsMet m.question x → IsMet m.question y →
    (rules_from m.question (origin_of m.question m.events)).view x ≡ (rules_from m.question (origin_of m.question m.events)).view y →
    (rules_from m.question (origin_of m.question m.events)).stop x n ≡ None → (rules_from m.question (origin_of m.question m.events)).next x n ≡ Some u →
    (v : Explored) × ((rules_from m.question (origin_of m.question m.events)).next y n ≡ Some v)
    × ((rules_from m.question (origin_of m.question m.events)).view u ≡ (rules_from m.question (origin_of m.question m.events)).view v)
unfolding rules_from rules_of
alike_next m x y u n h g is free went = met.alike_next m.question x y u n h g is free went

-- what is behind an event of the two is an end, or isn't

ends_as : (q : Question) (x y : Explored) → is_end q x ≡ is_end q y → at_end q (Some x) ≡ at_end q (Some y)
ends_as q x y h = ap (λ b. if b then Some tt else None) h

same_some : (u v : Explored) → ◌≡◌ {A = Option Explored} (Some u) (Some v) → u ≡ v
same_some u v h = cc

behind_as : (q : Question) (x y : Explored) (n : ℕ) (found other : Option Explored) → IsMet q x → IsMet q y → (rules_of q).view x ≡ (rules_of q).view y →
    (rules_of q).stop x n ≡ None → next q x n ≡ found → next q y n ≡ other → at_end q found ≡ at_end q other
unfolding rules_of
behind_as q x y n None None h g is free from to = refl
behind_as q x y n (Some u) other h g is free from to =
    let went = met.alike_next q x y u n h g is free from in
    ends_as q u went.0 (met.alike_end q u went.0 (next_met q x u n h from) (next_met q y went.0 n g went.1) went.2) ∙ ap (at_end q) (sym went.1 ∙ to)
behind_as q x y n None (Some v) h g is free from to =
    let went = met.alike_next q y x v n g h (sym is) (sym (met.alike_stop q x y n h g is) ∙ free) to in
    absurd (let bad : ◌≡◌ {A = Option Explored} None (Some went.0) = sym from ∙ went.1 in cc)

pub alike_verdict : (m : Origin) (x y : Explored) (n : ℕ) → IsMet m.question x → IsMet m.question y →
    (rules_from m.question (origin_of m.question m.events)).view x ≡ (rules_from m.question (origin_of m.question m.events)).view y →
    (rules_from m.question (origin_of m.question m.events)).stop x n ≡ None →
    (rules_from m.question (origin_of m.question m.events)).verdict x n ≡ (rules_from m.question (origin_of m.question m.events)).verdict y n
unfolding rules_from rules_of
alike_verdict m x y n h g is free = behind_as m.question x y n (next m.question x n) (next m.question y n) h g is free refl refl

pub alike_end : (m : Origin) (x y : Explored) → IsMet m.question x → IsMet m.question y →
    (rules_from m.question (origin_of m.question m.events)).view x ≡ (rules_from m.question (origin_of m.question m.events)).view y →
    (rules_from m.question (origin_of m.question m.events)).is_end x ≡ (rules_from m.question (origin_of m.question m.events)).is_end y
unfolding rules_from
alike_end m x y h g is = refl
