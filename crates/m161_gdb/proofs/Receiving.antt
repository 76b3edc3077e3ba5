-- What a link receives.
use Rattle.std.proofs.Common.{◌≡◌, ℕ, List, [], ◌∷◌, Bool, true, false, cond, refl, sym, ap, ◌∙◌, Option, Some, None}
use Rattle.std.specs.Prelude.{not}
use Rattle.std.proofs.lemmas.Slice.Eq.{bytes_eq-Decides}
use Rattle.m161_gdb.specs.declared.frames.Item.{Item}
use Rattle.m161_gdb.specs.declared.frames.Item.TheVariants as items
use Rattle.m161_gdb.specs.declared.link.Duty.{Duty}
use Rattle.m161_gdb.specs.declared.link.Duty.TheVariants as duties
use Rattle.m161_gdb.specs.declared.link.Link.{Link}
use Rattle.m161_gdb.specs.Links.{HasReceived, HoldsBody, Receives, acknowledging, duty_of_frame, is_end, is_last_word, is_same}

pub nothing_received : (link : Link) → link.acknowledging ≡ true → link.last ≡ None → HasReceived link []
nothing_received link mode last = record {
  mode = mode;
  last = λ _ body. ap (λ l. is_same l body) last;
  begun = λ _. ap is_last_word last;
}

false_true : {X : Type 0} → false ≡ true → X
false_true e = absurd (cc)

off_stays : (t : Bool) → cond t false false ≡ false
off_stays true = refl
off_stays false = refl

-- where frames aren't acknowledged
off : (past : List Item) (item : Item) → acknowledging past ≡ false → acknowledging (item ∷ past) ≡ false
off past item e = ap (λ (s : Bool). cond (is_end item) false s) e ∙ off_stays (is_end item)

pub unacknowledged : (old new : Link) (body : Option (List ℕ)) (right : Bool) → old.acknowledging ≡ false → new.acknowledging ≡ old.acknowledging → new.last ≡ body
    → Receives old new (items.Frame body right) (duties.Answer false)
unacknowledged old new body right mode same last = record {
  received = λ past is.
      let none : acknowledging past ≡ false = sym is.mode ∙ mode in
      let never : acknowledging (items.Frame body right ∷ past) ≡ false = off past (items.Frame body right) none in
      record {
        mode = same ∙ mode ∙ sym never;
        last = λ on. false_true (sym never ∙ on);
        begun = λ on. false_true (sym never ∙ on);
      };
  said_is = λ past is. sym (ap (λ (s : Bool). cond s (duty_of_frame past body right) (duties.Answer false)) (sym is.mode ∙ mode));
  body = last;
}

pub wrong : (old new : Link) (body : Option (List ℕ)) (right : Bool) → old.acknowledging ≡ true → right ≡ false → new.acknowledging ≡ old.acknowledging → new.last ≡ old.last
    → Receives old new (items.Frame body right) duties.Refuse
wrong old new body true mode fails same last = false_true (sym fails)
wrong old new body false mode fails same last = record {
  received = λ past is. record {
    mode = same ∙ is.mode;
    last = λ on other. ap (λ l. is_same l other) last ∙ is.last on other;
    begun = λ on. ap is_last_word last ∙ is.begun on;
  };
  said_is = λ past is. sym (ap (λ (s : Bool). cond s duties.Refuse (duties.Answer false)) (sym is.mode ∙ mode));
  body = tt;
}

same_bodies : (a b : Option (List ℕ)) → is_same a b ≡ true → a ≡ b
same_bodies None b e = false_true e
same_bodies (Some a) None e = false_true e
same_bodies (Some a) (Some b) e = ap (λ bs. Some bs) ((bytes_eq-Decides a b).0 e)

pub repeated : (old new : Link) (body : Option (List ℕ)) (right : Bool) → old.acknowledging ≡ true → right ≡ true → is_same old.last body ≡ true
    → new.acknowledging ≡ old.acknowledging → new.last ≡ old.last → Receives old new (items.Frame body right) duties.Nothing
repeated old new body false mode holds again same last = false_true holds
repeated old new body true mode holds again same last =
    let bodies : old.last ≡ body = same_bodies old.last body again in
    record {
      received = λ past is.
          let on : acknowledging past ≡ true = sym is.mode ∙ mode in
          let goes : is_last_word body ≡ false = sym (ap is_last_word bodies) ∙ is.begun on in
          record {
            mode = same ∙ is.mode ∙ sym (ap (λ (s : Bool). cond s false (acknowledging past)) goes);
            last = λ _ other. ap (λ l. is_same l other) (last ∙ bodies);
            begun = λ _. ap is_last_word (last ∙ bodies) ∙ goes;
          };
      said_is = λ past is.
          let on : acknowledging past ≡ true = sym is.mode ∙ mode in
          sym (ap (λ (s : Bool). cond s (duty_of_frame past body true) (duties.Answer false)) on
          ∙ ap (λ (s : Bool). cond s duties.Nothing (duties.Answer true)) (sym (is.last on body) ∙ again));
      body = tt;
    }

answered_mode : (t a : Bool) → a ≡ true → not t ≡ cond t false a
answered_mode true a e = refl
answered_mode false a e = sym e

goes_on : (t a : Bool) → cond t false a ≡ true → t ≡ false
goes_on true a e = false_true e
goes_on false a e = refl

pub answered : (old new : Link) (body : Option (List ℕ)) (right : Bool) → old.acknowledging ≡ true → right ≡ true → is_same old.last body ≡ false
    → new.acknowledging ≡ not (is_last_word body) → new.last ≡ body → Receives old new (items.Frame body right) (duties.Answer true)
answered old new body false mode holds other now last = false_true holds
answered old new body true mode holds other now last = record {
  received = λ past is.
      let on : acknowledging past ≡ true = sym is.mode ∙ mode in
      record {
        mode = now ∙ answered_mode (is_last_word body) (acknowledging past) on;
        last = λ _ another. ap (λ l. is_same l another) last;
        begun = λ still. ap is_last_word last ∙ goes_on (is_last_word body) (acknowledging past) still;
      };
  said_is = λ past is.
      let on : acknowledging past ≡ true = sym is.mode ∙ mode in
      sym (ap (λ (s : Bool). cond s (duty_of_frame past body true) (duties.Answer false)) on
      ∙ ap (λ (s : Bool). cond s duties.Nothing (duties.Answer true)) (sym (is.last on body) ∙ other));
  body = last;
}

pub plus : (old new : Link) → new.acknowledging ≡ old.acknowledging → new.last ≡ None → Receives old new items.Plus duties.Nothing
plus old new same last = record {
  received = λ past is. record {
    mode = same ∙ is.mode;
    last = λ _ body. ap (λ l. is_same l body) last;
    begun = λ _. ap is_last_word last;
  };
  said_is = λ past is. refl;
  body = tt;
}

pub minus : (link : Link) (said : Duty) → said ≡ cond link.acknowledging duties.Resend duties.Nothing → Receives link link items.Minus said
minus link said is_said = record {
  received = λ past is. record { mode = is.mode; last = is.last; begun = is.begun };
  said_is = λ past is. is_said ∙ ap (λ (s : Bool). cond s duties.Resend duties.Nothing) is.mode;
  body = by link.acknowledging said is_said;
}
  where
    by : (t : Bool) (said : Duty) → said ≡ cond t duties.Resend duties.Nothing → HoldsBody said items.Minus link
    by true duties.Resend e = tt
    by true duties.Nothing e = tt
    by true duties.Refuse e = tt
    by true duties.Interrupt e = tt
    by true (duties.Answer a) e = cc
    by false duties.Resend e = tt
    by false duties.Nothing e = tt
    by false duties.Refuse e = tt
    by false duties.Interrupt e = tt
    by false (duties.Answer a) e = cc

pub interrupt : (link : Link) → Receives link link items.Interrupt duties.Interrupt
interrupt link = record {
  received = λ past is. record { mode = is.mode; last = is.last; begun = is.begun };
  said_is = λ past is. refl;
  body = tt;
}
