-- Sessions, byte by byte.
use Rattle.std.proofs.Common.{◌≡◌, ℕ, Bool, true, false, List, [], ◌∷◌, ◌++◌, Option, Result, Ok, Err, inl, inr, refl, sym, ap₂, subst, append-nil, take}
use Rattle.std.proofs.KnownBytes.{Appends-nil, Appends-trans, Consumes-nil, Consumes-trans}
use Rattle.std.specs.Io.KnownBytes.{Appends, Consumes, IsAtEnd}
use Rattle.m161_gdb.specs.declared.frames.Item.{Item}
use Rattle.m161_gdb.specs.declared.frames.Reader.{Reader}
use Rattle.m161_gdb.specs.declared.link.Link.{Link}
use Rattle.m161_gdb.specs.Frames.{HasRead}
use Rattle.m161_gdb.specs.Links.{HasReceived}
use Rattle.m161_moves.specs.Course.{Course}
use Rattle.m161_server.specs.declared.fault.ServerFault.{ServerFault}
use Rattle.m161_server.specs.declared.fault.ServerFault.TheVariants as faults
use Rattle.m161_server.specs.declared.serving.Talk.{Talk}
use Rattle.m161_server.specs.declared.session.Session.{Session}
use Rattle.m161_server.specs.Sessions.{standing}
use Rattle.m161_server.specs.Serving.{Breaks, Ends, HasPast, Passes, in_order, new_session}
use Rattle.m161_server.specs.Streams.{streams}
use Rattle.m161_server.specs.helpers.Turns.{Serves, Serving, Takes, TakesItem, TakesNone, at, progress}

-- what was read is read as its items
has_past : (reader : Reader) (bytes : List ℕ) (past : List Item) → HasRead reader bytes (in_order past) → HasPast bytes past
has_past reader bytes past h = (h.pieces, h.opening, h.reading)

same_progress :
    (course : Course) (place from to : ℕ) (old new : Talk) (past : List Item) (text : List ℕ) →
    new.link ≡ old.link → new.session ≡ old.session → to ≡ from →
    Passes course place past text (progress from old past) → Passes course place past text (progress to new past)
same_progress course place from to old new past text link session here passes =
    subst (λ (n : ℕ). Passes course place past text (at (standing n new.session) new.link past)) (sym here)
    (subst (λ (s : Session). Passes course place past text (at (standing from s) new.link past)) (sym session)
    (subst (λ (k : Link). Passes course place past text (at (standing from old.session) k past)) (sym link) passes))

module _ {E : Type 0} (Fails : E → Type 0) (course : Course) (place : ℕ) (input output : Option (List ℕ))
    (from : ℕ) (old : Talk) (left written : Option (List ℕ))
    (so_far : Serving course place input output from old left written) where
  pub at_end : (l : Option (List ℕ)) → IsAtEnd l → Consumes left l [] → Ends course place (streams input l output written)
  at_end l end nothing = inl (record {
    bytes = so_far.bytes;
    past = so_far.past;
    text = so_far.text;
    to = progress from old so_far.past;
    passes = so_far.passes;
    has = has_past old.reader so_far.bytes so_far.past so_far.has_read;
    are_read = subst (Consumes input l) (append-nil so_far.bytes) (Consumes-trans input left l so_far.bytes [] so_far.are_read nothing);
    at_end = end;
    are_written = so_far.are_written;
  })

  pub unread : (l : Option (List ℕ)) → Consumes left l [] → Breaks Fails course place (streams input l output written) faults.Input
  unread l nothing = record {
    bytes = so_far.bytes;
    past = so_far.past;
    text = so_far.text;
    to = progress from old so_far.past;
    passes = so_far.passes;
    has = has_past old.reader so_far.bytes so_far.past so_far.has_read;
    read = [];
    written = [];
    behind = (refl, refl);
    are_read = Consumes-trans input left l so_far.bytes [] so_far.are_read nothing;
    are_written = subst (Appends output written) (sym (append-nil so_far.text)) so_far.are_written;
  }

  module _ (to : ℕ) (new : Talk) (l w : Option (List ℕ)) (byte : ℕ) (read : Consumes left l (byte ∷ [])) where
    all_read : Consumes input l (so_far.bytes ++ byte ∷ [])
    all_read = Consumes-trans input left l so_far.bytes (byte ∷ []) so_far.are_read read

    refused : w ≡ written → Breaks Fails course place (streams input l output w) faults.Memory
    refused same = record {
      bytes = so_far.bytes;
      past = so_far.past;
      text = so_far.text;
      to = progress from old so_far.past;
      passes = so_far.passes;
      has = has_past old.reader so_far.bytes so_far.past so_far.has_read;
      read = byte ∷ [];
      written = [];
      behind = (byte, refl, refl);
      are_read = all_read;
      are_written = subst (Appends output w) (sym (append-nil so_far.text)) (subst (λ o. Appends output o so_far.text) (sym same) so_far.are_written);
    }

    none : TakesNone {E = E} old new from to (so_far.bytes ++ byte ∷ []) so_far.past written w (Ok true) → Serving course place input output to new l w
    none t = record {
      bytes = so_far.bytes ++ byte ∷ [];
      past = so_far.past;
      text = so_far.text;
      has_read = t.has_read;
      received = subst (λ (k : Link). HasReceived k so_far.past) (sym t.link) so_far.received;
      passes = same_progress course place from to old new so_far.past so_far.text t.link t.session t.place so_far.passes;
      are_read = all_read;
      are_written = subst (λ o. Appends output o so_far.text) (sym t.written) so_far.are_written;
    }

    one : (result : Result Bool (ServerFault E)) → TakesItem Fails course old new from to (so_far.bytes ++ byte ∷ []) so_far.past written w result → Serves Fails course place input output to new l w result
    one (Ok true) t =
        let turn = t.deals.turn in record {
          bytes = so_far.bytes ++ byte ∷ [];
          past = t.item ∷ so_far.past;
          text = so_far.text ++ turn.0;
          has_read = t.has_read;
          received = t.deals.received;
          passes = (progress from old so_far.past, so_far.text, turn.0, so_far.passes, turn.1, refl);
          are_read = all_read;
          are_written = Appends-trans output written w so_far.text turn.0 so_far.are_written turn.2;
        }
    one (Ok false) t =
        let turn = t.deals.turn in inr (record {
          bytes = so_far.bytes;
          past = so_far.past;
          text = so_far.text;
          to = progress from old so_far.past;
          passes = so_far.passes;
          has = has_past old.reader so_far.bytes so_far.past so_far.has_read;
          byte = byte;
          item = t.item;
          last = has_past new.reader (so_far.bytes ++ byte ∷ []) (t.item ∷ so_far.past) t.has_read;
          answer = turn.0;
          final = progress to new (t.item ∷ so_far.past);
          does = turn.1;
          are_read = all_read;
          are_written = Appends-trans output written w so_far.text turn.0 so_far.are_written turn.2;
        })
    one (Err faults.Input) t = absurd t.deals.turn
    one (Err faults.Memory) t = refused t.deals.turn
    one (Err faults.Output) t =
        let turn = t.deals.turn in record {
          bytes = so_far.bytes;
          past = so_far.past;
          text = so_far.text;
          to = progress from old so_far.past;
          passes = so_far.passes;
          has = has_past old.reader so_far.bytes so_far.past so_far.has_read;
          read = byte ∷ [];
          written = take turn.3.0 turn.0;
          behind = (
            byte,
            t.item,
            has_past new.reader (so_far.bytes ++ byte ∷ []) (t.item ∷ so_far.past) t.has_read,
            (turn.0, progress to new (t.item ∷ so_far.past), turn.1, turn.2, (turn.3.0, refl)),
            refl,
          );
          are_read = all_read;
          are_written = Appends-trans output written w so_far.text (take turn.3.0 turn.0) so_far.are_written turn.3.1;
        }
    one (Err (faults.Run error)) t =
        let turn = t.deals.turn in record {
          bytes = so_far.bytes;
          past = so_far.past;
          text = so_far.text;
          to = progress from old so_far.past;
          passes = so_far.passes;
          has = has_past old.reader so_far.bytes so_far.past so_far.has_read;
          read = byte ∷ [];
          written = [];
          behind = (byte, t.item, has_past new.reader (so_far.bytes ++ byte ∷ []) (t.item ∷ so_far.past) t.has_read, turn.0, refl, refl);
          are_read = all_read;
          are_written = subst (Appends output w) (sym (append-nil so_far.text)) (subst (λ o. Appends output o so_far.text) (sym turn.1) so_far.are_written);
        }

    pub took : (result : Result Bool (ServerFault E)) → Takes Fails course old new from to (so_far.bytes ++ byte ∷ []) so_far.past written w result → Serves Fails course place input output to new l w result
    took result (inl t) =
        subst (Serves Fails course place input output to new l w) (sym t.goes_on)
        (none (subst (TakesNone old new from to (so_far.bytes ++ byte ∷ []) so_far.past written w) t.goes_on t))
    took result (inr (inl t)) = one result t
    took result (inr (inr t)) = subst (Serves Fails course place input output to new l w) (sym t.0) (refused t.1)

-- at the start
pub begins :
    (course : Course) (place : ℕ) (input output : Option (List ℕ)) (talk : Talk) →
    HasRead talk.reader [] [] → HasReceived talk.link [] → talk.link.sent.items ≡ [] →
    talk.session ≡ new_session → Serving course place input output place talk input output
begins course place input output talk read received sent new = record {
  bytes = [];
  past = [];
  text = [];
  has_read = read;
  received = received;
  passes = (refl, ap₂ (λ s (t : List ℕ). record { stands = standing place s; sent = t; past = [] }) new sent);
  are_read = Consumes-nil input;
  are_written = Appends-nil output;
}

-- behind a byte more, or the end
pub next :
    {E : Type 0} (Fails : Course → E → Type 0) (k course : Course) (place : ℕ) (input output : Option (List ℕ))
    (from : ℕ) (old : Talk) (left written : Option (List ℕ)) (to : ℕ) (new : Talk) (l w : Option (List ℕ))
    (result : Result Bool (ServerFault E)) → k ≡ course →
    (Serving k place input output from old left written → Serves (Fails k) k place input output to new l w result) →
    Serving course place input output from old left written →
    Serves (Fails course) course place input output to new l w result
next Fails k course place input output from old left written to new l w result same f so_far =
    subst (λ (j : Course). Serves (Fails j) j place input output to new l w result) same
    (f (subst (λ (j : Course). Serving j place input output from old left written) (sym same) so_far))
