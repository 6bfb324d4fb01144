-- How `clap` walks over the words of `watch`, where its number has any parser: an option at a time.
use Rattle.command_words.proofs.Prelude.{◌≡◌, ◌∙◌, ap, ap₂, refl, sym, subst, Bool, true, false, List, [], ◌∷◌, ◌++◌}
use Rattle.command_words.proofs.Prelude.{Some, None, codes, accepts, takes, Row, Text, ValueParser}
use Rattle.std.proofs.Common.{append_assoc, append-nil, ◌&&◌}
use Rattle.std.specs.Prelude.{fold, is_some}
use Rattle.std.specs.List.{list_all}
use Rattle.clap.specs.Walk.{Held, Rule, Walk, finished, has_row, nothing_held, settled, used, walk, walk_from, walked}
use Rattle.clap.specs.Walk.{with_default}
use Rattle.clap.specs.Takes.{default_passes, entered_passes, is_valid, settle_passes, use_passes, walk_passes}
use Rattle.clap.specs.Simple.{Shape, built, entered, filled, matches_of, with_index}
use Rattle.clap.proofs.OnLiterals.{clap_on_literals}
use Rattle.command_words.specs.Parser.{number_rule, text_rule, watch_app}
use Rattle.command_words.proofs.Forms.{Form, own, joined, words_in, FitsForm}

pub data WatchOption : Type 0 where
  network : WatchOption
  account : WatchOption
  readers : WatchOption

abbrev pub option_name : WatchOption → Text
option_name network = codes "network"
option_name account = codes "account"
option_name readers = codes "readers"

module _ (number : ValueParser) where
  abbrev pub shape : Shape
  shape = (built (watch_app number)).top

  abbrev pub rules : List Rule
  rules = shape.rules

  abbrev pub rule_at : WatchOption → Rule
  rule_at network = with_index 1 (filled (text_rule (codes "network")))
  rule_at account = with_index 1 (filled (text_rule (codes "account")))
  rule_at readers = with_index 1 (filled (number_rule number (codes "readers")))

  -- the rows with one more, of an option with this value
  abbrev pub with_option : WatchOption → Text → List Row → List Row
  with_option option value rows = used (rule_at option) (value ∷ []) rows

  abbrev pub Passes : WatchOption → Text → List Row → Type 0
  Passes option value rows = use_passes false (rule_at option) (value ∷ []) rows ≡ true

  -- what is held before an option, where the options before it gave these rows
  pub record IsReady (h : Held) (rows : List Row) : Type 0 where
    pub settled_is : (settled rules h).rows ≡ rows
    pub passes : settle_passes rules false h ≡ true

  -- the walk goes over the words of an option
  pub record Goes (option : WatchOption) (form : Form) (value : Text) (h : Held) (rows : List Row) : Type 0 where
    pub held : Held
    pub is_ready : IsReady held (with_option option value rows)
    pub walks : (rest : List Text)
        → fold (walked rules []) (walk_from h) (words_in form (option_name option) value ++ rest)
        ≡ fold (walked rules []) (walk_from held) rest
    pub passes : (rest : List Text)
        → walk_passes shape [] (walk_from h) (words_in form (option_name option) value ++ rest)
        ≡ walk_passes shape [] (walk_from held) rest

  -- an option whose value is a word of its own is held until the next one
  abbrev pended : WatchOption → Text → Held → Held
  pended option value h = record (settled rules h) { pending = Some (option_name option, value ∷ []) }

  abbrev taken : WatchOption → Text → Held → Held
  taken option value h =
      record (settled rules h) { rows = with_option option value (settled rules h).rows; pending = None }

  goes : (option : WatchOption) (form : Form) (value : Text) (h : Held) (rows : List Row) → FitsForm form value
      → IsReady h rows → Passes option value rows → Goes option form value h rows
  unfolding clap_on_literals
  goes network own value h rows plain at once = record {
    held = pended network value h;
    is_ready = record {
      settled_is = ap (with_option network value) at.settled_is;
      passes = subst (Passes network value) (sym at.settled_is) once;
    };
    walks = λ rest. rw (plain.bare, plain.long, plain.short) refl;
    passes = λ rest. rw (plain.bare, plain.long, plain.short)
        (ap (λ (a : Bool). (a && true) && walk_passes shape [] (walk_from (pended network value h)) rest) at.passes);
  }
  goes network joined value h rows plain at once = record {
    held = taken network value h;
    is_ready = record { settled_is = ap (with_option network value) at.settled_is; passes = refl };
    walks = λ rest. refl;
    passes = λ rest.
        ap₂ (λ (a b : Bool). ((a && b) && true) && walk_passes shape [] (walk_from (taken network value h)) rest)
        at.passes (subst (Passes network value) (sym at.settled_is) once);
  }
  goes account own value h rows plain at once = record {
    held = pended account value h;
    is_ready = record {
      settled_is = ap (with_option account value) at.settled_is;
      passes = subst (Passes account value) (sym at.settled_is) once;
    };
    walks = λ rest. rw (plain.bare, plain.long, plain.short) refl;
    passes = λ rest. rw (plain.bare, plain.long, plain.short)
        (ap (λ (a : Bool). (a && true) && walk_passes shape [] (walk_from (pended account value h)) rest) at.passes);
  }
  goes account joined value h rows plain at once = record {
    held = taken account value h;
    is_ready = record { settled_is = ap (with_option account value) at.settled_is; passes = refl };
    walks = λ rest. refl;
    passes = λ rest.
        ap₂ (λ (a b : Bool). ((a && b) && true) && walk_passes shape [] (walk_from (taken account value h)) rest)
        at.passes (subst (Passes account value) (sym at.settled_is) once);
  }
  goes readers own value h rows plain at once = record {
    held = pended readers value h;
    is_ready = record {
      settled_is = ap (with_option readers value) at.settled_is;
      passes = subst (Passes readers value) (sym at.settled_is) once;
    };
    walks = λ rest. rw (plain.bare, plain.long, plain.short) refl;
    passes = λ rest. rw (plain.bare, plain.long, plain.short)
        (ap (λ (a : Bool). (a && true) && walk_passes shape [] (walk_from (pended readers value h)) rest) at.passes);
  }
  goes readers joined value h rows plain at once = record {
    held = taken readers value h;
    is_ready = record { settled_is = ap (with_option readers value) at.settled_is; passes = refl };
    walks = λ rest. refl;
    passes = λ rest.
        ap₂ (λ (a b : Bool). ((a && b) && true) && walk_passes shape [] (walk_from (taken readers value h)) rest)
        at.passes (subst (Passes readers value) (sym at.settled_is) once);
  }

  -- ---- three options

  -- what a walk to its end comes to
  abbrev level : Walk → Bool → Bool
  level w passed = entered_passes (built (watch_app number)) w.stopped
      && (passed && (settle_passes rules false w.held && (list_all default_passes rules
      && is_valid shape (finished rules w.held) (is_some (entered (built (watch_app number)) w.stopped)))))

  -- the words are taken, with these rows
  pub record IsWatchRead (words : List Text) (rows : List Row) : Type 0 where
    pub taken : takes (watch_app number) words ≡ true
    pub found : matches_of (watch_app number) words ≡ rows

  level_is : (words : List Text) → takes (watch_app number) words
      ≡ level (walk rules [] nothing_held words) (walk_passes shape [] (walk_from nothing_held) words)
  level_is words = refl

  read_by : (words : List Text) (h : Held) (rows : List Row) → IsReady h rows
      → walk rules [] nothing_held words ≡ walk_from h
      → walk_passes shape [] (walk_from nothing_held) words ≡ true
      → IsWatchRead words (fold with_default rows rules)
  read_by words h rows at walks passes = record {
    taken = level_is words ∙ ap₂ level walks passes ∙ ap (λ (a : Bool). a && true) at.passes;
    found = ap (λ (w : Walk). finished rules w.held) walks ∙ ap (λ r. fold with_default r rules) at.settled_is;
  }

  module _ (a b c : WatchOption) (f g h : Form) (u v w : Text) (fits : FitsForm f u) (fits' : FitsForm g v)
      (fits'' : FitsForm h w) (once : Passes a u []) (once' : Passes b v (with_option a u []))
      (once'' : Passes c w (with_option b v (with_option a u []))) where
    first : Goes a f u nothing_held []
    first = goes a f u nothing_held [] fits (record { settled_is = refl; passes = refl }) once

    second : Goes b g v first.held (with_option a u [])
    second = goes b g v first.held (with_option a u []) fits' first.is_ready once'

    third : Goes c h w second.held (with_option b v (with_option a u []))
    third = goes c h w second.held (with_option b v (with_option a u [])) fits'' second.is_ready once''

    words_are : words_in f (option_name a) u ++ words_in g (option_name b) v ++ words_in h (option_name c) w
        ≡ words_in f (option_name a) u ++ (words_in g (option_name b) v ++ (words_in h (option_name c) w ++ []))
    words_are = append_assoc (words_in f (option_name a) u) (words_in g (option_name b) v)
        (words_in h (option_name c) w)
        ∙ ap (λ ws. words_in f (option_name a) u ++ (words_in g (option_name b) v ++ ws))
        (sym (append-nil (words_in h (option_name c) w)))

    pub three_read : IsWatchRead
        (words_in f (option_name a) u ++ words_in g (option_name b) v ++ words_in h (option_name c) w)
        (fold with_default (with_option c w (with_option b v (with_option a u []))) rules)
    unfolding clap_on_literals
    three_read = read_by _ third.held (with_option c w (with_option b v (with_option a u []))) third.is_ready
        (ap (walk rules [] nothing_held) words_are
        ∙ first.walks (words_in g (option_name b) v ++ (words_in h (option_name c) w ++ []))
        ∙ second.walks (words_in h (option_name c) w ++ []) ∙ third.walks [])
        (ap (walk_passes shape [] (walk_from nothing_held)) words_are
        ∙ first.passes (words_in g (option_name b) v ++ (words_in h (option_name c) w ++ []))
        ∙ second.passes (words_in h (option_name c) w ++ []) ∙ third.passes [])

  -- ---- uses

  abbrev pub IsValue : WatchOption → Text → Type 0
  IsValue network value = Unit {0}
  IsValue account value = Unit {0}
  IsValue readers value = accepts false number value ≡ true

  pub passes_once : (option : WatchOption) (value : Text) (rows : List Row) → IsValue option value
      → has_row (option_name option) rows ≡ false → Passes option value rows
  passes_once network value rows is none = rw none refl
  passes_once account value rows is none = rw none refl
  passes_once readers value rows is none = rw (none, is) refl
