-- What a line states has the shape of its form.
use Rattle.std.proofs.Common.{◌≡◌, ℕ, List, [], ◌∷◌, Some, None, Ok}
use Rattle.script_lang.specs.Kinds.{Kind, LABEL, PUBLISHER, N, URI, HEX, CONTENT, Value, Text, Anyone, Number}
use Rattle.script_lang.specs.Kinds.{Named, Octets}
use Rattle.script_lang.specs.Lines.{line_of}
use Rattle.script_lang.specs.Texts.{AreOf, IsLineText, IsOfKind}
use Rattle.script_lang.proofs.LineTexts.{line_texts}
use Rattle.script_lang.specs.declared.line.Line.{Line}
use Rattle.script_lang.specs.declared.line.Line.TheVariants as line
use Rattle.script_lang.specs.Forms.{Stated, form, stated, AreShaped, IsShaped}

pub states_its_form : (l : Line) → AreShaped (form (stated l).verb).kinds (stated l).values
states_its_form (line.Group _) = (tt, tt)
states_its_form (line.Member _ _ _) = (tt, (tt, (tt, tt)))
states_its_form (line.Client _ _ _) = (tt, (tt, (tt, tt)))
states_its_form (line.Mirror _ None _) = (tt, (tt, (tt, tt)))
states_its_form (line.Mirror _ (Some _) _) = (tt, (tt, (tt, tt)))
states_its_form (line.Publish _ _ _ _) = (tt, (tt, (tt, (tt, tt))))
states_its_form (line.Withdraw _ _) = (tt, (tt, tt))
states_its_form (line.Deliver _ _) = (tt, (tt, tt))
states_its_form (line.Sync _) = (tt, tt)
states_its_form (line.Advance _) = (tt, tt)
states_its_form (line.Fire _) = (tt, tt)
states_its_form (line.Restart _) = (tt, tt)
states_its_form (line.Vector _) = (tt, tt)
states_its_form (line.Catalogue _) = (tt, tt)
states_its_form (line.Claim _ _) = (tt, (tt, tt))
states_its_form (line.Lose _ _) = (tt, (tt, tt))
states_its_form (line.Answer _ _ _) = (tt, (tt, (tt, tt)))
states_its_form (line.Fetch _ _ _ _) = (tt, (tt, (tt, (tt, tt))))
states_its_form (line.Settle _) = (tt, tt)
states_its_form (line.Dump _ _ _ _) = (tt, (tt, (tt, (tt, tt))))
states_its_form (line.Hear _ _) = (tt, (tt, tt))
states_its_form (line.Order _ _) = (tt, (tt, tt))
states_its_form (line.Ask _ _) = (tt, (tt, tt))
states_its_form (line.Feed _ _ _) = (tt, (tt, (tt, tt)))
states_its_form (line.Block _ _ _ _) = (tt, (tt, (tt, (tt, tt))))
states_its_form (line.Status _ _ _) = (tt, (tt, (tt, tt)))
states_its_form (line.Delete _ _ _) = (tt, (tt, (tt, tt)))
states_its_form (line.Insert _ _ _ _ _) = (tt, (tt, (tt, (tt, (tt, tt)))))
states_its_form (line.Watch _ None _) = (tt, (tt, (tt, tt)))
states_its_form (line.Watch _ (Some _) _) = (tt, (tt, (tt, tt)))
states_its_form (line.Told _ _) = (tt, (tt, tt))
states_its_form (line.Mdeliver _ _) = (tt, (tt, tt))
states_its_form (line.Mfetch _ _ _ _) = (tt, (tt, (tt, (tt, tt))))
states_its_form (line.Mcatalogue _) = (tt, tt)
states_its_form line.Summary = tt
states_its_form line.Traffic = tt

-- ---- octets

kind_is_shaped : (kind : Kind) (value : Value) → IsOfKind kind value → IsShaped kind value
kind_is_shaped LABEL (Text label) h = tt
kind_is_shaped PUBLISHER (Text label) h = tt
kind_is_shaped PUBLISHER Anyone h = tt
kind_is_shaped (N least most) (Number n) h = tt
kind_is_shaped (URI least most) (Named name) h = tt
kind_is_shaped (HEX most) (Octets octets) h = tt
kind_is_shaped (CONTENT least most) (Octets octets) h = tt
kind_is_shaped kind value h = absurd h

are_shaped : (kinds : List Kind) (values : List Value) → AreOf kinds values → AreShaped kinds values
are_shaped [] [] h = tt
are_shaped (kind ∷ kinds) (value ∷ values) h = (kind_is_shaped kind value h.0, are_shaped kinds values h.1)
are_shaped [] (value ∷ values) h = absurd h
are_shaped (kind ∷ kinds) [] h = absurd h

pub read_in_its_form : (octets : List ℕ) (s : Stated) → line_of octets ≡ Ok (Some s)
    → AreShaped (form s.verb).kinds s.values
read_in_its_form octets s h =
    let text : IsLineText s octets = (line_texts s octets).0 h in are_shaped (form s.verb).kinds s.values text.ranges
