use Rattle.std.specs.Prelude.{ℕ, List, [], ◌∷◌, codes}
use Rattle.m161_text.specs.Lines.{text_of}

-- What `help` prints: a line for each command, its forms first.

unfoldable pub help_text : List ℕ
help_text = text_of (
    codes "b P ADDR                   sets a breakpoint of processor P; with --symbols ADDR may be a name" ∷
    codes "d P ADDR                   deletes it" ∷
    codes "s P | s P N                makes a Step of processor P; N Steps, up to a stop" ∷
    codes "k HH                       types a byte" ∷
    codes "o                          the console has sent its byte" ∷
    codes "g | g N                    makes the events that are left, or the first N, up to a stop" ∷
    codes "u m ADDR                   g, and stops once the word of RAM is another" ∷
    codes "u t P                      g, and stops at a trap of processor P" ∷
    codes "u r P N                    g, and stops once its register N is another" ∷
    codes "u i P I                    g, and stops once its TLB row I is another" ∷
    codes "u o                        g, and stops once a byte is sent" ∷
    codes "j K                        goes back to the state before event K, or on, whatever the breakpoints" ∷
    codes "w                          where the started processors are" ∷
    codes "a                          how many events were made, and how many with those that are left" ∷
    codes "r P                        the registers of processor P" ∷
    codes "r P N                      its register N" ∷
    codes "c P                        its registers of coprocessor 0" ∷
    codes "t P                        its TLB" ∷
    codes "m ADDR N                   N words of RAM" ∷
    codes "x ADDR N | x ADDR N P      N instructions; as processor P fetches them" ∷
    codes "l N                        the last N entries of the log" ∷
    codes "y N                        the last N events that were made, as trace shows them" ∷
    codes "help                       prints this" ∷
    codes "quit                       ends" ∷
    [])
